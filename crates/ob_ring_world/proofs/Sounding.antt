-- The past of a ring store that began well goes on so, and keeps what is promised of it.
use Rattle.std.proofs.Common.{◌≡◌, ◌⊎◌, inl, inr, ⊎_elim, ℕ, zero, suc, ◌+◌, ◌-◌, ◌<◌, ◌≤◌, Bool, true, false, List, [], ◌∷◌, ◌++◌, length, Option, Some, None, refl, sym, ap, subst, ◌∙◌, arith}
use Rattle.std.specs.Prelude.{drop}
use Rattle.std.proofs.lemmas.List.{append-nil, take-append-drop}
use Rattle.std.proofs.lemmas.Option.{none-some, same_Some}
use Rattle.ob_base.specs.Repeats.{Has, NoRepeats}
use Rattle.ob_base.proofs.Repeats.{has_cases}
use Rattle.ob_base.specs.declared.params.Params.{Params}
use Rattle.ob_tables.specs.Rank.{IsRanking}
use Rattle.ob_store.specs.Disk.{Image}
use Rattle.ob_store.specs.Told.{events_of}
use Rattle.ob_store.specs.declared.event.Event.{Event}
use Rattle.ob_store.specs.declared.event.Event.TheVariants as event
use Rattle.ob_store.specs.declared.watch.Note.{Note}
use Rattle.ob_store.specs.declared.watch.Note.TheVariants as note
use Rattle.ob_schedule.specs.Phases.{phases_of}
use Rattle.std.specs.List.{count_by}
use Rattle.ob_recover.specs.LifePublic.{public_in}
use Rattle.ob_ring.specs.FlatTable.{indexes}
use Rattle.ob_schedule.specs.Schedule.{format_notes, public_formatted}
use Rattle.ob_recover.specs.Telling.{AreDealt}
use Rattle.ob_vault.specs.Hidden.{AreFirst}
use Rattle.ob_seal.specs.Sealing.{Sealing}
use Rattle.ob_seal.specs.declared.keys.Keys.{Keys}
use Rattle.ob_serial.specs.Vaults.{Standing, VaultCall}
use Rattle.ob_recover.specs.Calls.{repeated}
use Rattle.ob_recover.specs.Life.{Append, End, IsActAllowed, IsLife, LifeAct, LifeState, Open, ShowBatch, ShowLifts, WordId, formatted_life, labels_shown, life_step, reached, slots_shown}
use Rattle.ob_recover.proofs.FreshLaws.{attempts_agree, lifts_agree, lives_are_fresh}
use Rattle.ob_pads.specs.Seals.{Pad, pads_between, pads_from}
use Rattle.ob_vault.proofs.Whole.{reached_join}
use Rattle.ob_vault.specs.Acts.{is_answered}
use Rattle.ob_vault.specs.Lives.{opening_acts}
use Rattle.ob_world.proofs.Holding.{headline}
use Rattle.ob_ring_world.specs.Pasts.{AreHolesFresh, ArePadsApart, AreRowsShown, BeginsWithFormat, GoesOnBehind, IsFrontRow, IsRowFilled, IsSoundPast, IsWholeRow, OfOpening, RingPast, RowKind, ShownRow, format_row, formatted_past, row_phases, state_behind}
use Rattle.ob_ring_world.specs.RingCourses.{RingHeadlineHolds, RingPromises, ring_course}
use Rattle.ob_ring_world.specs.Steps.{IsAnsweredBy, IsCallBy, IsOpenedBy, IsPartOf, IsRingCut, IsShownOf, IsShownOfOpening, SealsOn, part_left, rows_with}

-- ---- lists of pads

in_run : (g a n : ℕ) (x : Pad) → Has (pads_from g a n) x → (x.0 ≡ g) × (a ≤ x.1) × (x.1 < a + n)
in_run g a zero x has = absurd has
in_run g a (suc n) x (inl is) =
    let first : g ≡ x.0 = ap (λ (y : Pad). y.0) is in
    let second : a ≡ x.1 = ap (λ (y : Pad). y.1) is in
    (sym first, omega arith, omega arith)
in_run g a (suc n) x (inr has) = let rest = in_run g (a + 1) n x has in (rest.0, omega (arith, rest.1), omega (arith, rest.2))

run_apart : (g a n : ℕ) → NoRepeats (pads_from g a n)
run_apart g a zero = tt
run_apart g a (suc n) = ((λ has. let rest : (g ≡ g) × (a + 1 ≤ a) × (a < (a + 1) + n) = in_run g (a + 1) n (g, a) has in omega (arith, rest.1)), run_apart g (a + 1) n)

both_apart : (xs ys : List Pad) → NoRepeats xs → NoRepeats ys → ((x : Pad) → Has xs x → Has ys x → ⊥) → NoRepeats (xs ++ ys)
both_apart [] ys one two apart = two
both_apart (x ∷ xs) ys one two apart = (
  (λ has. ⊎_elim (λ here. one.0 here) (λ there. apart x (inl refl) there) (has_cases xs ys x has)),
  both_apart xs ys one.1 two (λ y here there. apart y (inr here) there),
)

-- ---- lives

-- steps that are made one by one are dealt so
pub dealt_one_by_one : (most : ℕ) → 1 ≤ most → (notes : List Note) → AreDealt most (phases_of notes) (events_of notes)
dealt_one_by_one most some [] = refl
dealt_one_by_one most some (note.Label leaf ∷ notes) = dealt_one_by_one most some notes
dealt_one_by_one most some (note.Read cell ∷ notes) = (event.Read cell ∷ [], events_of notes, refl, record { lanes = 1; few = some; lane_of = λ i. 0; within = λ i lt. omega arith; seen = refl }, dealt_one_by_one most some notes)
dealt_one_by_one most some (note.Write cell ∷ notes) = (events_of notes, refl, dealt_one_by_one most some notes)
dealt_one_by_one most some (note.Sync ∷ notes) = (events_of notes, refl, dealt_one_by_one most some notes)

module _ (p : Params) (word_of : WordId → ℕ) where
  pub life_rest : (s : LifeState) (xs ys : List LifeAct) → IsLife p word_of s (xs ++ ys) → IsLife p word_of (reached p word_of s xs) ys
  life_rest s [] ys life = life
  life_rest s (x ∷ xs) ys life = life_rest (life_step p word_of s x) xs ys life.1

  pub life_front : (s : LifeState) (xs ys : List LifeAct) → IsLife p word_of s (xs ++ ys) → IsLife p word_of s xs
  life_front s [] ys life = tt
  life_front s (x ∷ xs) ys life = (life.0, life_front (life_step p word_of s x) xs ys life.1)

  step_rises : (s : LifeState) (a : LifeAct) → IsActAllowed p word_of s a → s.generation ≤ (life_step p word_of s a).generation
  step_rises s (Open g) may = omega (arith, may)
  step_rises s (Append r) may = omega arith
  step_rises s ShowBatch may = omega arith
  step_rises s ShowLifts may = omega arith
  step_rises s (End ws drawn slot) may = omega arith

  rises : (s : LifeState) (xs : List LifeAct) → IsLife p word_of s xs → s.generation ≤ (reached p word_of s xs).generation
  rises s [] life = omega arith
  rises s (x ∷ xs) life = let one = step_rises s x life.0 in let more = rises (life_step p word_of s x) xs life.1 in omega (arith, one, more)

  -- behind an opening's acts the generation is the next one, or a later one
  opening_rises : (s : LifeState) → IsLife p word_of s (opening_acts s) → suc s.generation ≤ (reached p word_of s (opening_acts s)).generation
  opening_rises s life = rises (life_step p word_of s (Open (suc s.generation))) (repeated (length s.log)) life.1

module _ (p : Params) (word_of : WordId → ℕ) (slot : ℕ → ℕ → ℕ) where
  pub behind_rises : (xs ys : List LifeAct) → IsLife p word_of (formatted_life slot) (xs ++ ys) → (state_behind p word_of slot xs).generation ≤ (state_behind p word_of slot (xs ++ ys)).generation
  behind_rises xs ys life = subst (λ (t : LifeState). (state_behind p word_of slot xs).generation ≤ t.generation) (sym (reached_join p word_of (formatted_life slot) xs ys))
      (rises p word_of (state_behind p word_of slot xs) ys (life_rest p word_of (formatted_life slot) xs ys life))

  -- ---- pads

  -- the seals of a call, over acts that lead no generation back
  pads_on : (past new : RingPast) (seals : SealsOn past) → ArePadsApart p word_of slot past → new.pads ≡ past.pads ++ pads_between (Some seals.was) seals.now → (state_behind p word_of slot past.acts).generation ≤ (state_behind p word_of slot new.acts).generation
      → ((s : Sealing) → new.sealer ≡ Some s → s ≡ seals.now) → ArePadsApart p word_of slot new
  pads_on past new seals h pads up same =
      let was : Sealing = seals.was in
      let now : Sealing = seals.now in
      let fresh : List Pad = pads_from was.generation was.next (now.next - was.next) in
      let run = in_run was.generation was.next (now.next - was.next) in
      let older : was.generation ≤ (state_behind p word_of slot past.acts).generation = h.own was seals.sealed in
      let on : was.next ≤ now.next = seals.further.on in
      let each : (x : Pad) → Has new.pads x → Has past.pads x ⊎ Has fresh x = (λ x has. has_cases past.pads fresh x (subst (λ (l : List Pad). Has l x) pads has)) in
      record {
        apart = subst (λ (l : List Pad). NoRepeats l) (sym pads)
            (both_apart past.pads fresh h.apart (run_apart was.generation was.next (now.next - was.next)) (λ x old more. let t = h.taken was seals.sealed x old (run x more).0 in let l = (run x more).1 in omega (arith, t, l)));
        earlier = λ x has. ⊎_elim (λ (old : Has past.pads x). let e = h.earlier x old in omega (arith, e, up)) (λ (more : Has fresh x). let e = (run x more).0 in omega (arith, e, older, up)) (each x has);
        own = λ s is. let e : s.generation ≡ was.generation = ap (λ (y : Sealing). y.generation) (same s is) ∙ seals.further.generation in omega (arith, e, older, up);
        taken = λ s is x has gen.
            let e : s.generation ≡ was.generation = ap (λ (y : Sealing). y.generation) (same s is) ∙ seals.further.generation in
            let n : s.next ≡ now.next = ap (λ (y : Sealing). y.next) (same s is) in
            ⊎_elim (λ (old : Has past.pads x). let t = h.taken was seals.sealed x old (gen ∙ e) in omega (arith, t, n, on)) (λ (more : Has fresh x). let t = (run x more).2 in omega (arith, t, n, on)) (each x has);
      }

  -- no seal, and no sealer any more
  pads_stay : (past new : RingPast) → ArePadsApart p word_of slot past → new.pads ≡ past.pads → new.sealer ≡ None → (state_behind p word_of slot past.acts).generation ≤ (state_behind p word_of slot new.acts).generation → ArePadsApart p word_of slot new
  pads_stay past new h pads none up = record {
    apart = subst (λ (l : List Pad). NoRepeats l) (sym pads) h.apart;
    earlier = λ x has. let e = h.earlier x (subst (λ (l : List Pad). Has l x) pads has) in omega (arith, e, up);
    own = λ s is. absurd (none-some s (sym none ∙ is));
    taken = λ s is. absurd (none-some s (sym none ∙ is));
  }

  -- ---- rows

  -- the first of its phases, and nothing behind
  pub front_of_first : (row : ShownRow) → AreFirst row.lanes (row_phases p row.kind row.public row.fills) row.events → IsFrontRow p row
  front_of_first row first = ([], subst (λ (l : List Event). AreFirst row.lanes (row_phases p row.kind row.public row.fills) l) (sym (append-nil row.events)) first)

  pub front_of_whole : (row : ShownRow) → IsWholeRow p row → IsFrontRow p row
  front_of_whole row whole = front_of_first row (row_phases p row.kind row.public row.fills, [], sym (append-nil (row_phases p row.kind row.public row.fills)), whole)

  row_filled : (rows : List ShownRow) (row : ShownRow) → AreRowsShown p word_of slot rows → Has rows row → IsRowFilled p word_of slot row
  row_filled [] row shown has = absurd has
  row_filled (first ∷ rows) row shown (inl is) = subst (λ (x : ShownRow). IsRowFilled p word_of slot x) is shown.1
  row_filled (first ∷ rows) row shown (inr has) = row_filled rows row shown.3 has

  call_rows : (past : RingPast) (call : VaultCall) (shown : Option ShownRow) → IsShownOf p word_of slot past call shown → AreRowsShown p word_of slot past.rows → AreRowsShown p word_of slot (rows_with shown past.rows)
  call_rows past call None is rows = rows
  call_rows past call (Some row) (kind, before, acts, front, filled, behind) rows = (front, filled, behind, rows)

  behind_opening : (rows : List ShownRow) (gates : ℕ → Bool) (generation repeats : ℕ) (row : ShownRow) → row.kind ≡ OfOpening gates generation repeats → GoesOnBehind p rows row.kind row.public
  behind_opening rows gates generation repeats row kind = subst (λ (k : RowKind). GoesOnBehind p rows k row.public) (sym kind) tt

  opening_rows : (before : List LifeAct) (shown : Option ShownRow) (rows : List ShownRow) → IsShownOfOpening p word_of slot before shown → AreRowsShown p word_of slot rows → AreRowsShown p word_of slot (rows_with shown rows)
  opening_rows before None rows is shown = shown
  opening_rows before (Some row) rows (gates, kind, first, acts, front, filled) shown = (front, filled, behind_opening rows gates _ _ row kind, shown)

  begins_more : (rows : List ShownRow) (row : ShownRow) → BeginsWithFormat rows → BeginsWithFormat (row ∷ rows)
  begins_more [] row none = absurd none
  begins_more (last ∷ rows) row begins = begins

  begins_with : (shown : Option ShownRow) (rows : List ShownRow) → BeginsWithFormat rows → BeginsWithFormat (rows_with shown rows)
  begins_with None rows begins = begins
  begins_with (Some row) rows begins = begins_more rows row begins

  -- ---- each step

  answered_sound : (past : RingPast) (call : VaultCall) (new : RingPast) → IsAnsweredBy p word_of slot past call new → IsSoundPast p word_of slot past → IsSoundPast p word_of slot new
  answered_sound past call new s h =
      let life : IsLife p word_of (formatted_life slot) (past.acts ++ s.row.acts) = subst (λ (l : List LifeAct). IsLife p word_of (formatted_life slot) (l ++ s.row.acts)) s.before s.filled.is_life in
      subst (IsSoundPast p word_of slot) (sym s.state) (record {
        is_life = life;
        rows = (front_of_whole s.row s.whole, s.filled, s.behind, h.rows);
        begins = begins_more past.rows s.row h.begins;
        pads = pads_on past (record { acts = past.acts ++ s.row.acts; in_flight = None; rows = s.row ∷ past.rows; pads = past.pads ++ pads_between (Some s.seals.was) s.seals.now; sealer = Some s.seals.now }) s.seals h.pads refl
            (behind_rises past.acts s.row.acts life) (λ x is. sym (same_Some s.seals.now x is));
      })

  part_sound : (past : RingPast) (call : VaultCall) (part : IsPartOf p word_of slot past call) (sealer : Option Sealing) → ((s : Sealing) → sealer ≡ Some s → s ≡ part.seals.now) → IsSoundPast p word_of slot past → IsSoundPast p word_of slot (part_left p word_of slot past call part sealer)
  part_sound past call part sealer same h = record {
    is_life = part.is_life;
    rows = call_rows past call part.shown part.fronts h.rows;
    begins = begins_with part.shown past.rows h.begins;
    pads = pads_on past (part_left p word_of slot past call part sealer) part.seals h.pads refl (behind_rises past.acts part.made part.is_life) same;
  }

  called_sound : (answered : Bool) (past : RingPast) (call : VaultCall) (new : RingPast) → IsCallBy p word_of slot answered past call new → IsSoundPast p word_of slot past → IsSoundPast p word_of slot new
  called_sound true past call new s h = answered_sound past call new s h
  called_sound false past call new s h = subst (IsSoundPast p word_of slot) (sym s.state) (part_sound past call s.part (Some s.part.seals.now) (λ x is. sym (same_Some s.part.seals.now x is)) h)

  opened_sound : (past : RingPast) (at : Standing) (new : RingPast) → IsOpenedBy p word_of slot past at new → IsSoundPast p word_of slot past → IsSoundPast p word_of slot new
  opened_sound past at new s h =
      let before : List LifeAct = past.acts ++ s.found in
      let t : LifeState = state_behind p word_of slot before in
      let life : IsLife p word_of (formatted_life slot) (before ++ s.row.acts) = subst (λ (l : List LifeAct). IsLife p word_of (formatted_life slot) (l ++ s.row.acts)) s.before s.filled.is_life in
      let high : suc t.generation ≤ (reached p word_of t s.row.acts).generation = subst (λ (l : List LifeAct). suc t.generation ≤ (reached p word_of t l).generation) (sym s.acts)
      (opening_rises p word_of t (subst (λ (l : List LifeAct). IsLife p word_of t l) s.acts (life_rest p word_of (formatted_life slot) before s.row.acts life))) in
      let there : suc t.generation ≤ (state_behind p word_of slot (before ++ s.row.acts)).generation = subst (λ (u : LifeState). suc t.generation ≤ u.generation) (sym (reached_join p word_of (formatted_life slot) before s.row.acts)) high in
      let found : (state_behind p word_of slot past.acts).generation ≤ t.generation = behind_rises past.acts s.found (life_front p word_of (formatted_life slot) before s.row.acts life) in
      subst (IsSoundPast p word_of slot) (sym s.state) (record {
        is_life = life;
        rows = (front_of_whole s.row s.whole, s.filled, behind_opening past.rows s.gates _ _ s.row s.kind, h.rows);
        begins = begins_more past.rows s.row h.begins;
        pads = record {
          apart = h.pads.apart;
          earlier = λ x has. let e = h.pads.earlier x has in omega (arith, e, found, there);
          own = λ x is. let e : x.generation ≡ suc t.generation = ap (λ (y : Sealing). y.generation) (sym (same_Some s.sealing x is)) ∙ s.generation in omega (arith, e, there);
          taken = λ x is pad has gen.
              let e : x.generation ≡ suc t.generation = ap (λ (y : Sealing). y.generation) (sym (same_Some s.sealing x is)) ∙ s.generation in
              let low = h.pads.earlier pad has in
              absurd (omega (arith, e, low, found, gen));
        };
      })

  module _ (keys : Keys) where
    cut_sound : (past : RingPast) (inside : Option VaultCall) (image : Image) (new : RingPast) → IsRingCut p word_of slot keys past inside image new → IsSoundPast p word_of slot past → IsSoundPast p word_of slot new
    cut_sound past None image new (inl s) h = subst (IsSoundPast p word_of slot) (sym s.state) (record { is_life = h.is_life; rows = h.rows; begins = h.begins; pads = pads_stay past (record past { sealer = None }) h.pads refl refl (omega arith) })
    cut_sound past None image new (inr s) h =
        let there = behind_rises (past.acts ++ s.found) s.made s.is_life in
        let found = behind_rises past.acts s.found (life_front p word_of (formatted_life slot) (past.acts ++ s.found) s.made s.is_life) in
        subst (IsSoundPast p word_of slot) (sym s.state) (record {
          is_life = s.is_life;
          rows = opening_rows (past.acts ++ s.found) s.shown past.rows s.fronts h.rows;
          begins = begins_with s.shown past.rows h.begins;
          pads = pads_stay past (record { acts = (past.acts ++ s.found) ++ s.made; in_flight = s.in_flight; rows = rows_with s.shown past.rows; pads = past.pads; sealer = None }) h.pads refl refl (omega (arith, there, found));
        })
    cut_sound past (Some call) image new s h = subst (IsSoundPast p word_of slot) (sym s.state) (part_sound past call s.part None (λ x is. absurd (none-some x is)) h)

  -- ---- what is promised

  behind_more : (before more acts : List LifeAct) → acts ≡ before ++ more → state_behind p word_of slot acts ≡ reached p word_of (state_behind p word_of slot before) more
  behind_more before more acts is = ap (state_behind p word_of slot) is ∙ reached_join p word_of (formatted_life slot) before more

  rest : (before more acts : List LifeAct) → acts ≡ before ++ more → IsLife p word_of (formatted_life slot) acts → IsLife p word_of (state_behind p word_of slot before) more
  rest before more acts is life = life_rest p word_of (formatted_life slot) before more (subst (λ (l : List LifeAct). IsLife p word_of (formatted_life slot) l) is life)

  fresh_past : 0 < p.dummies → ((u : ℕ) → IsRanking (p.real + p.dummies) (slot u)) → (past : RingPast) → IsSoundPast p word_of slot past → AreHolesFresh p word_of slot past
  fresh_past some ranked past h = record {
    made = lives_are_fresh p word_of slot past.acts some ranked h.is_life;
    rows = λ row has. lives_are_fresh p word_of slot (row.before ++ row.acts) some ranked (row_filled past.rows row h.rows has).is_life;
    attempts = λ before more is epoch begun within.
        let there = behind_more before more past.acts is in
        let agree = attempts_agree p word_of (state_behind p word_of slot before) more (rest before more past.acts is h.is_life) (ap (λ (t : LifeState). t.epoch) (sym there) ∙ epoch) (ap (λ (t : LifeState). t.begun) (sym there) ∙ begun) within in
        subst (λ (t : LifeState). (labels_shown p word_of t ShowBatch ≡ labels_shown p word_of (state_behind p word_of slot before) ShowBatch) × (slots_shown p word_of t ShowBatch ≡ slots_shown p word_of (state_behind p word_of slot before) ShowBatch)) (sym there) agree;
    lifts = λ before more is epoch full full_now.
        let there = behind_more before more past.acts is in
        subst (λ (t : LifeState). slots_shown p word_of t ShowLifts ≡ slots_shown p word_of (state_behind p word_of slot before) ShowLifts) (sym there)
        (lifts_agree p word_of (state_behind p word_of slot before) more (rest before more past.acts is h.is_life) (ap (λ (t : LifeState). t.epoch) (sym there) ∙ epoch) full (subst (λ (t : LifeState). length t.log ≡ p.batches) there full_now));
  }

module _ (keys : Keys) (p : Params) (word_of : WordId → ℕ) (slot : ℕ → ℕ → ℕ) (ranked : (u : ℕ) → IsRanking (p.real + p.dummies) (slot u)) where
  pub promises : RingPromises keys p word_of slot
  promises = record {
    called = λ old call answer new step sound. called_sound p word_of slot (is_answered answer) old call new step sound;
    cut = cut_sound p word_of slot keys;
    opened = opened_sound p word_of slot;
    public = λ past sound. (sound.rows, sound.begins);
    fresh = fresh_past p word_of slot (let some = p.in_range.some_dummies in omega (arith, some)) ranked;
    pads_once = λ past sound. sound.pads.apart;
  }

  -- what a format makes of its row
  format_front : (calls : ℕ) → IsFrontRow p (format_row p calls)
  format_front calls = (
    drop calls (events_of (format_notes p)),
    (
      phases_of (format_notes p),
      [],
      sym (append-nil (phases_of (format_notes p))),
      subst (λ (l : List Event). AreDealt 1 (phases_of (format_notes p)) l) (sym (take-append-drop calls (events_of (format_notes p)))) (dealt_one_by_one 1 (omega arith) (format_notes p)),
    ),
  )

  none_read : (xs : List ℕ) → count_by (λ j. false) xs ≡ 0
  none_read [] = refl
  none_read (x ∷ xs) = none_read xs

  -- a new store has no reads, and all its buckets lie in their first places
  format_public : public_formatted p ≡ public_in p word_of (formatted_life slot) (public_formatted p).gates
  format_public i = record { epoch = 0; homes = λ u. 0; counts = λ u. sym (none_read (indexes p)) i; counter = 0; gates = (public_formatted p).gates; leaves = [] }

  pub begins_sound : (calls : ℕ) → IsSoundPast p word_of slot (formatted_past p calls)
  begins_sound calls = record {
    is_life = tt;
    rows = (format_front calls, record { gates = (public_formatted p).gates; known = format_public; shown = refl; is_life = tt; labels = refl; slots = λ x has. absurd has }, tt, tt);
    begins = refl;
    pads = record { apart = tt; earlier = λ x has. absurd has; own = λ s is. absurd (none-some s is); taken = λ s is. absurd (none-some s is) };
  }

pub ring_headline : RingHeadlineHolds
ring_headline keys p word_of slot ranked = (begins_sound keys p word_of slot ranked, promises keys p word_of slot ranked, λ kept. headline (ring_course keys p word_of slot kept))
