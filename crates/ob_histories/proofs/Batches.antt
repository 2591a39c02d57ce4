-- A batch is begun, or repeated, and what it leaves is allowed.
use Rattle.std.specs.Prelude.{◌≡◌, ◌<◌, ◌≤◌, ◌⊎◌, ℕ, ◌+◌, ◌-◌, ◌%◌, ◌==◌, ◌&&◌, ◌^◌, nat_lt, Bool, true, false, cond, List, [], ◌∷◌, ◌++◌, map, take, drop, slice_index, length, Option, None}
use Rattle.std.specs.List.{flat_map, range_with_len}
use Rattle.std.specs.Int.{div_ceil}
use Rattle.std.proofs.Common.{zero, suc, refl, sym, ap, ◌∙◌, subst, subst₂, inl, inr, arith, append_assoc, add-one}
use Rattle.std.proofs.lemmas.List.{append-nil, length-append}
use Rattle.std.proofs.lemmas.List.FromFn.{length-map-range_with_len}
use Rattle.std.proofs.lemmas.Bool.{lt-ltb, le-ltb, eq-eqb, cases_lt}
use Rattle.ob_base.specs.declared.params.Params.{Params}
use Rattle.ob_base.specs.Layout.{log_cell, log_gate, record_cells, record_len}
use Rattle.ob_store.specs.declared.watch.Note.{Note}
use Rattle.ob_store.specs.declared.watch.Note.TheVariants.{Label, Write, Sync}
use Rattle.ob_schedule.specs.Schedule.{counts_now, hole_reads, batch_leaves, batch_notes, phase_notes, record_notes, writes_of}
use Rattle.ob_schedule.specs.declared.line.Line.TheVariants as L
use Rattle.ob_schedule.specs.declared.want.Side.{Side}
use Rattle.ob_schedule.specs.declared.want.Gate.{Gate}
use Rattle.ob_schedule.specs.declared.want.Change.TheVariants.{Keeps, MayLog, Logs}
use Rattle.ob_schedule.specs.declared.want.Want.{Want}
use Rattle.ob_schedule.specs.declared.want.Want.TheVariants.{Fixed, Place, Record}
use Rattle.ob_schedule.specs.Sides.{other, side_number}
use Rattle.ob_schedule.specs.Holes.{Hole, place_holes}
use Rattle.ob_schedule.specs.Standing.{StandingKnown, public_known, with_label}
use Rattle.ob_schedule.specs.Wants.{kept, record_wants, places, end_holes, end_wants}
use Rattle.ob_schedule.specs.Follow.{Follow, TakesLine, taken_up}
use Rattle.ob_histories.specs.Fills.{AllFills, AreAllFills, public_at, public_in_epoch, fills_at, leaves_of_batches}
use Rattle.ob_histories.specs.Runs.{RunFound, HistoryTurn}
use Rattle.ob_histories.specs.Histories.{AreRecordsLeft}
use Rattle.ob_histories.proofs.Standing.{Holds, label_holds}
use Rattle.ob_histories.proofs.Ended.{other_side}
use Rattle.ob_histories.proofs.Holes.{count_before, place_are}
use Rattle.ob_histories.proofs.Walks.{Walk, walk_none, walk_note, walk_join, walk_weaker, walk_within, walk_kept, Stops, up_stops}
use Rattle.ob_histories.proofs.Places.{at, rest_of, Known, InEpoch, Keeps as InPlaces, place_notes, walk_holes, walk_places, label_rest, leaf_at, same_before, one_more}
use Rattle.ob_histories.proofs.Finding.{GateMay, RecordsMay, Fits, Stands, Allows, holds_rest, epoch_at}
use Rattle.ob_histories.proofs.Sets.{IsOf}

-- what a batch's record or its places may leave
abbrev pub IsThere : HistoryTurn → ℕ → RunFound → Type 0
IsThere t generation y = IsOf generation y × ((y.epoch ≡ t.epoch) × (y.epoch_gate ≡ t.gate))

some_parts : (x : ℕ) → 0 < x → 0 < div_ceil x 96
some_parts x some = omega arith

some_cells : (p : Params) → 0 < record_cells p
unfolding record_cells
some_cells p = some_parts (record_len p) (omega arith)

-- what is known before a turn
pub record AtTurn (p : Params) (f : AllFills) (t : HistoryTurn) (generation : ℕ) (s : StandingKnown) : Type 0 where
  pub holds : Holds p f s t.epoch
  pub side : side_number s.generation ≡ generation % 2
  pub generation_gate : GateMay s.generation_gate true
  pub epoch_gate : GateMay s.epoch_gate t.gate
  pub logged : ((t.batch < t.records) × RecordsMay s.logged s.maybe t.records) ⊎ ((t.records ≤ t.batch) × (s.logged ≡ t.batch))
  pub few : t.records ≤ p.batches
  pub low : t.batch ≤ p.batches

abbrev pub before : Params → AllFills → HistoryTurn → StandingKnown → Follow
before p f t s = taken_up (at p s t.batch (leaves_of_batches p f (suc t.epoch) t.batch) [] [])

-- wants that are there
pub up_some : (p : Params) (s : StandingKnown) (c : ℕ) (ls : List ℕ) (wants ws : List Want) (w : Want) → wants ≡ w ∷ ws → at p s c ls [] wants ≡ taken_up (at p s c ls [] wants)
up_some p s c ls wants ws w is = ap (λ (xs : List Want). at p s c ls [] xs) is ∙ ap (λ (xs : List Want). taken_up (at p s c ls [] xs)) (sym is)

less_one : (n : ℕ) → 1 ≤ n → n ≡ suc (n - 1)
less_one n some = omega (arith, some)

-- a record lacks two notes or more
none_open : (batch n records : ℕ) → 2 ≤ n → AreRecordsLeft batch n records → records ≡ batch
none_open batch zero records two left = absurd (omega (arith, two))
none_open batch (suc zero) records two left = absurd (omega (arith, two))
none_open batch (suc (suc n)) records two left = left

module _ (p : Params) (f : AllFills) (all : AreAllFills p f) (t : HistoryTurn) (generation : ℕ) (low : t.batch < p.batches) where
  abbrev pub leaves_before : List ℕ
  leaves_before = leaves_of_batches p f (suc t.epoch) t.batch

  abbrev pub leaves_now : List ℕ
  leaves_now = batch_leaves p (fills_at p f t.epoch) t.batch

  abbrev pub phase : List Note
  phase = phase_notes p (public_in_epoch p f t.epoch t.batch) (fills_at p f t.epoch) leaves_now

  abbrev Rest : Type 0
  Rest = Side × (Gate × (Gate × (ℕ × Bool)))

  -- the gates and the generation are as they were
  abbrev IsSame : Rest → Type 0
  IsSame r = (side_number r.0 ≡ generation % 2) × ((GateMay r.1.0 true) × GateMay r.1.1.0 t.gate)

  is_there : (r : Rest) (y : RunFound) (s : StandingKnown) → IsSame r → IsThere t generation y → RecordsMay r.1.1.1.0 r.1.1.1.1 y.records → y.records ≤ p.batches → Known p f t.epoch r s → Stands p f y s
  is_there r y s same is may few known = (
    subst (λ (e : ℕ). Holds p f s e) (sym is.1.0) known.0,
    subst (λ (q : Rest). Fits p q y) (sym known.1) (record {
      generation = same.0 ∙ ap (λ (n : ℕ). n % 2) (sym is.0.0);
      generation_gate = subst (λ (b : Bool). GateMay r.1.0 b) (sym is.0.1) same.1.0;
      epoch_gate = subst (λ (b : Bool). GateMay r.1.1.0 b) (sym is.1.1) same.1.1;
      records = may;
      few = few;
    }),
  )

  there_stops : (r : Rest) (y : RunFound) (h : Follow) → IsSame r → IsThere t generation y → RecordsMay r.1.1.1.0 r.1.1.1.1 y.records → y.records ≤ p.batches → Stops p (InEpoch p f t.epoch r) h → Stops p (Allows p f y) h
  there_stops r y h same is may few stops =
      (stops.0, (stops.1.0, subst (λ (o : Option StandingKnown). Allows p f y h.stands o) (sym stops.1.1.0) (is_there r y h.stands same is may few stops.1.1.1)))

  -- the step's wants are taken up
  pub loaded : (s : StandingKnown) (wants : List Want)
      → cond (nat_lt t.batch s.logged) (places p t.batch) (cond ((t.batch == s.logged) && s.maybe) (Record t.batch ∷ []) (record_wants p (other s.epoch) t.batch ++ places p t.batch)) ≡ wants
      → before p f t s ≡ at p s (t.batch + 1) leaves_before [] wants
  loaded s wants are = λ i. cond (lt-ltb t.batch p.batches low i) (at p s (t.batch + 1) leaves_before [] (are i)) (at p s t.batch leaves_before (end_holes p s leaves_before) (end_wants p s leaves_before))

  abbrev pub many : ℕ
  many = p.places - 1

  pub all_places : p.places ≡ suc many
  all_places = less_one p.places p.in_range.some_places

  abbrev pub first_places : List Want
  first_places = map (λ j. Place t.batch j) (range_with_len 0 (suc many))

  pub are_places : places p t.batch ≡ first_places
  are_places = ap (λ (n : ℕ). map (λ j. Place t.batch j) (range_with_len 0 n)) all_places

  abbrev pub place_lists : Rest → List Note
  place_lists r = flat_map (place_notes p f all t.epoch r t.batch) (range_with_len 0 (suc many))

  pub are_notes : (r : Rest) → place_lists r ≡ phase
  are_notes r = sym (ap (λ (n : ℕ). flat_map (place_notes p f all t.epoch r t.batch) (range_with_len 0 n)) (length-map-range_with_len (f.leaf (suc t.epoch) t.batch) 0 p.places ∙ all_places))

  pub begun : leaves_before ≡ leaves_before ++ take 0 leaves_now
  begun = sym (append-nil leaves_before)

  -- the batch's places, from a state in which they are wanted
  abbrev after : StandingKnown → Follow
  after s = taken_up (at p s (suc t.batch) (leaves_of_batches p f (suc t.epoch) (suc t.batch)) [] [])

  walk_phase : (s : StandingKnown) → Holds p f s t.epoch
      → (s' : StandingKnown) × (Known p f t.epoch (rest_of s) s' × Walk (InPlaces p f t.epoch (rest_of s)) (at p s (t.batch + 1) leaves_before [] first_places) phase (after s'))
  walk_phase s holds =
      let walk = walk_places p f all t.epoch (rest_of s) (suc many) s (t.batch + 1) t.batch 0 leaves_before (holds, refl) low (omega (arith, all_places)) begun in
      let there : Walk (InPlaces p f t.epoch (rest_of s)) (at p s (t.batch + 1) leaves_before [] first_places) (place_lists (rest_of s)) (after walk.0) =
      subst (λ (c : ℕ). Walk (InPlaces p f t.epoch (rest_of s)) (at p s (t.batch + 1) leaves_before [] first_places) (place_lists (rest_of s)) (taken_up (at p walk.0 c (leaves_of_batches p f (suc t.epoch) (suc t.batch)) [] [])))
      (add-one t.batch) walk.1.1 in
      (walk.0, (walk.1.0, subst (λ (ns : List Note). Walk (InPlaces p f t.epoch (rest_of s)) (at p s (t.batch + 1) leaves_before [] first_places) ns (after walk.0)) (are_notes (rest_of s)) there))

  -- ---- a batch that is repeated

  abbrev Repeated : ℕ → Follow → Type 0
  Repeated k h = (y : RunFound) → IsThere t generation y → y.records ≡ t.records → Stops p (Allows p f y) h

  abbrev then_turn : HistoryTurn
  then_turn = record t { batch = suc t.batch }

  -- what is known behind it
  behind_turn : (s s' : StandingKnown) → IsSame (rest_of s) → t.records ≤ p.batches → Known p f t.epoch (rest_of s) s'
      → (((suc t.batch < t.records) × RecordsMay s.logged s.maybe t.records) ⊎ ((t.records ≤ suc t.batch) × (s.logged ≡ suc t.batch))) → AtTurn p f then_turn generation s'
  behind_turn s s' is few known may =
      let same : rest_of s' ≡ rest_of s = known.1 in
      record {
        holds = known.0;
        side = subst (λ (r : Rest). side_number r.0 ≡ generation % 2) (sym same) is.0;
        generation_gate = subst (λ (r : Rest). GateMay r.1.0 true) (sym same) is.1.0;
        epoch_gate = subst (λ (r : Rest). GateMay r.1.1.0 t.gate) (sym same) is.1.1;
        logged = subst (λ (r : Rest). ((suc t.batch < t.records) × RecordsMay r.1.1.1.0 r.1.1.1.1 t.records) ⊎ ((t.records ≤ suc t.batch) × (r.1.1.1.0 ≡ suc t.batch))) (sym same) may;
        few = few;
        low = omega (arith, low);
      }

  abbrev Stepped : (ℕ → Follow → Type 0) → Follow → List Note → Type 0
  Stepped I g notes = (s' : StandingKnown) × (AtTurn p f then_turn generation s' × Walk I g notes (after s'))

  repeat_sure : (s : StandingKnown) → AtTurn p f t generation s → t.batch < t.records → RecordsMay s.logged s.maybe t.records → t.batch < s.logged → Stepped Repeated (before p f t s) phase
  repeat_sure s is more may sure =
      let wants = ap (λ (b : Bool). cond b (places p t.batch) (cond ((t.batch == s.logged) && s.maybe) (Record t.batch ∷ []) (record_wants p (other s.epoch) t.batch ++ places p t.batch))) (lt-ltb t.batch s.logged sure) ∙ are_places in
      let walk = walk_phase s is.holds in
      let weak : Walk Repeated (at p s (t.batch + 1) leaves_before [] first_places) phase (after walk.0) =
      walk_weaker (InPlaces p f t.epoch (rest_of s)) Repeated (at p s (t.batch + 1) leaves_before [] first_places) (after walk.0) phase
      (λ k h stops y there is_all. there_stops (rest_of s) y h (is.side, (is.generation_gate, is.epoch_gate)) there (subst (λ (n : ℕ). RecordsMay s.logged s.maybe n) (sym is_all) may) (omega (arith, is_all, is.few)) stops) walk.1.1 in
      (walk.0, (behind_turn s walk.0 (is.side, (is.generation_gate, is.epoch_gate)) is.few walk.1.0 (next_may may), subst (λ (g : Follow). Walk Repeated g phase (after walk.0)) (sym (loaded s first_places wants)) weak))
    where
      next_may : RecordsMay s.logged s.maybe t.records → ((suc t.batch < t.records) × RecordsMay s.logged s.maybe t.records) ⊎ ((t.records ≤ suc t.batch) × (s.logged ≡ suc t.batch))
      next_may (inl same) = cases (cases_lt (suc t.batch) t.records)
        where
          cases : (suc t.batch < t.records) ⊎ (t.records ≤ suc t.batch) → ((suc t.batch < t.records) × RecordsMay s.logged s.maybe t.records) ⊎ ((t.records ≤ suc t.batch) × (s.logged ≡ suc t.batch))
          cases (inl more) = inl (more, inl same)
          cases (inr last) = inr (last, omega (arith, last, same, sure))
      next_may (inr one) = (let more : suc t.batch < t.records = omega (arith, one.1, sure) in inl (more, inr one))

  -- the record that may be open is
  repeat_maybe : (s : StandingKnown) → AtTurn p f t generation s → t.batch < t.records → s.maybe ≡ true → t.records ≡ suc s.logged → s.logged ≡ t.batch → Stepped Repeated (before p f t s) phase
  repeat_maybe s is more maybe one_open last =
      let wants : cond (nat_lt t.batch s.logged) (places p t.batch) (cond ((t.batch == s.logged) && s.maybe) (Record t.batch ∷ []) (record_wants p (other s.epoch) t.batch ++ places p t.batch)) ≡ Record t.batch ∷ [] =
      (λ i. cond (le-ltb t.batch s.logged (omega (arith, last)) i) (places p t.batch) (cond (eq-eqb t.batch s.logged (sym last) i && maybe i) (Record t.batch ∷ []) (record_wants p (other s.epoch) t.batch ++ places p t.batch))) in
      let s2 : StandingKnown = record s { logged = t.batch + 1; maybe = false } in
      let r2 : Rest = rest_of s2 in
      let g : Follow = at p s (t.batch + 1) leaves_before [] (Record t.batch ∷ []) in
      let holds2 : Holds p f s2 t.epoch = holds_rest p f s t.epoch s.generation s.generation_gate s.epoch_gate (t.batch + 1) false is.holds in
      let leaf : ℕ = slice_index leaves_now 0 in
      let some : 0 < p.places = omega (arith, all_places) in
      let s3 : StandingKnown = with_label s2 t.batch 0 leaf in
      let known3 : Known p f t.epoch r2 s3 = (label_holds p f s2 t.epoch t.batch 0 leaf holds2 (leaf_at p f all t.epoch r2 t.batch 0 some), label_rest s2 t.batch 0 leaf) in
      let hs : List Hole = place_holes p (count_before p f t.epoch t.batch 0) leaf in
      let ws : List Want = map (λ j. Place t.batch j) (range_with_len 1 many) in
      let ls : List ℕ = leaves_before ++ leaf ∷ [] in
      let next : Follow = taken_up (at p s3 (t.batch + 1) ls hs ws) in
      let end : StandingKnown → Follow = λ s'. taken_up (at p s' (t.batch + 1) (leaves_of_batches p f (suc t.epoch) (suc t.batch)) [] []) in
      let same : place_holes p (counts_now p (public_known p s2 leaves_before)) leaf ≡ hs = ap (λ (count : ℕ → ℕ). place_holes p count leaf) (same_before p f all t.epoch r2 s2 t.batch 0 leaves_before holds2 begun) in
      let within : leaf < 2 ^ p.levels = subst (λ (x : ℕ). x < 2 ^ p.levels) (sym (leaf_at p f all t.epoch r2 t.batch 0 some)) (all.leaves (suc t.epoch) t.batch 0) in
      let takes : TakesLine g (L.Note (Label leaf)) next = inl (leaf, record { within = within; is = refl; then = λ i. taken_up (at p s3 (t.batch + 1) ls (sym same i) (drop 1 (sym are_places i))) }) in
      let one = walk_holes p f all t.epoch r2 s3 (t.batch + 1) ls hs ws known3 (place_are p f t.epoch t.batch 0 low some) in
      let more = walk_places p f all t.epoch r2 many one.0 (t.batch + 1) t.batch 1 ls one.1.0 low (omega (arith, all_places)) (one_more p f all t.epoch r2 t.batch 0 leaves_before some begun) in
      let rest : List Note = flat_map (place_notes p f all t.epoch r2 t.batch) (range_with_len 1 many) in
      let reads : List Note = hole_reads p (public_at p f t.epoch) (fills_at p f t.epoch) hs in
      let joined : Walk (InPlaces p f t.epoch r2) next (reads ++ rest) (end more.0) = walk_join (InPlaces p f t.epoch r2) next (taken_up (at p one.0 (t.batch + 1) ls [] ws)) (end more.0) reads rest one.1.1 more.1.1 in
      let weak : Walk Repeated next (reads ++ rest) (end more.0) = walk_weaker (InPlaces p f t.epoch r2) Repeated next (end more.0) (reads ++ rest)
      (λ k h stops y there is_all. there_stops r2 y h (is.side, (is.generation_gate, is.epoch_gate)) there (inl (is_all ∙ one_open ∙ ap suc last ∙ sym (add-one t.batch))) (omega (arith, is_all, is.few)) stops) joined in
      let first : Walk Repeated g (place_lists r2) (end more.0) = walk_note Repeated g next (end more.0) (Label leaf) (reads ++ rest) takes
      (λ y there is_all. (refl, (refl, is_there (rest_of s) y s (is.side, (is.generation_gate, is.epoch_gate)) there (inr (maybe, is_all ∙ one_open)) (omega (arith, is_all, is.few)) (is.holds, refl)))) weak in
      let whole : Walk Repeated g phase (after more.0) =
      subst (λ (ns : List Note). Walk Repeated g ns (after more.0)) (are_notes r2)
      (subst (λ (c : ℕ). Walk Repeated g (place_lists r2) (taken_up (at p more.0 c (leaves_of_batches p f (suc t.epoch) (suc t.batch)) [] []))) (add-one t.batch) first) in
      (more.0, (behind_turn s2 more.0 (is.side, (is.generation_gate, is.epoch_gate)) is.few more.1.0 (inr (omega (arith, one_open, last), add-one t.batch)), subst (λ (h : Follow). Walk Repeated h phase (after more.0)) (sym (loaded s (Record t.batch ∷ []) wants)) whole))

  pub walk_repeat : (s : StandingKnown) → AtTurn p f t generation s → t.batch < t.records → Stepped Repeated (before p f t s) phase
  walk_repeat s is more = go is.logged
    where
      sure : RecordsMay s.logged s.maybe t.records → (t.batch < s.logged) ⊎ (s.logged ≤ t.batch) → Stepped Repeated (before p f t s) phase
      sure may (inl low_still) = repeat_sure s is more may low_still
      sure (inl same) (inr high) = absurd (omega (arith, same, high, more))
      sure (inr one) (inr high) = repeat_maybe s is more one.0 one.1 (omega (arith, one.1, high, more))

      go : ((t.batch < t.records) × RecordsMay s.logged s.maybe t.records) ⊎ ((t.records ≤ t.batch) × (s.logged ≡ t.batch)) → Stepped Repeated (before p f t s) phase
      go (inl may) = sure may.1 (cases_lt t.batch s.logged)
      go (inr new) = absurd (omega (arith, new.0, more))

  -- ---- a batch that is begun

  abbrev pub area : StandingKnown → ℕ
  area s = side_number (other s.epoch)

  abbrev cells : ℕ → ℕ → List Note
  cells from n = writes_of (map (log_cell p 0 t.batch) (range_with_len from n))

  abbrev pub some_writes : StandingKnown → ℕ → ℕ → List Note
  some_writes s from n = writes_of (map (log_cell p (area s) t.batch) (range_with_len from n))

  abbrev pub parts : ℕ
  parts = record_cells p - 1

  all_parts : record_cells p ≡ suc parts
  all_parts = less_one (record_cells p) (some_cells p)

  abbrev pub gate_wants : StandingKnown → List Want
  gate_wants s = Fixed Sync Keeps ∷ Fixed (Write (log_gate p (area s) t.batch)) MayLog ∷ Fixed Sync Logs ∷ []

  abbrev pub gate_notes : StandingKnown → List Note
  gate_notes s = Sync ∷ Write (log_gate p (area s) t.batch) ∷ Sync ∷ []

  -- what is wanted behind the record's first cell
  abbrev pub more_wants : StandingKnown → List Want
  more_wants s = kept (some_writes s 1 parts) ++ (gate_wants s ++ places p t.batch)

  pub split_wants : (s : StandingKnown) → record_wants p (other s.epoch) t.batch ++ places p t.batch ≡ Fixed (Write (log_cell p (area s) t.batch 0)) Keeps ∷ more_wants s
  split_wants s =
      ap (λ (n : ℕ). (kept (some_writes s 0 n) ++ gate_wants s) ++ places p t.batch) all_parts
      ∙ append_assoc (kept (some_writes s 0 (suc parts))) (gate_wants s) (places p t.batch)

  abbrev pub record_lists : StandingKnown → List Note
  record_lists s = Write (log_cell p (area s) t.batch 0) ∷ (some_writes s 1 parts ++ gate_notes s)

  pub are_record : (s : StandingKnown) → record_lists s ≡ record_notes p (area s) t.batch
  are_record s = sym (ap (λ (n : ℕ). some_writes s 0 n ++ gate_notes s) all_parts)

  -- by what the record lacks
  abbrev Begun : ℕ → Follow → Type 0
  Begun k h = (y : RunFound) → IsThere t generation y → AreRecordsLeft t.batch k y.records → Stops p (Allows p f y) h

  -- the record's standing: so many are sure, and one more may be open
  abbrev pub logs : StandingKnown → ℕ → Bool → StandingKnown
  logs s logged maybe = record s { logged = logged; maybe = maybe }

  begun_stop : (s : StandingKnown) (logged : ℕ) (maybe : Bool) (wants : List Want) (y : RunFound) → Holds p f s t.epoch → IsSame (rest_of s) → IsThere t generation y → RecordsMay logged maybe y.records → y.records ≤ p.batches
      → Stops p (Allows p f y) (at p (logs s logged maybe) (t.batch + 1) leaves_before [] wants)
  begun_stop s logged maybe wants y holds same there may few =
      (refl, (refl, is_there (rest_of (logs s logged maybe)) y (logs s logged maybe) same there may few (holds_rest p f s t.epoch s.generation s.generation_gate s.epoch_gate logged maybe holds, refl)))

  one_or_more : (batch records : ℕ) (maybe : Bool) → maybe ≡ true → ((records ≡ batch) ⊎ (records ≡ suc batch)) → RecordsMay batch maybe records
  one_or_more batch records maybe is (inl same) = inl same
  one_or_more batch records maybe is (inr more) = inr (is, more)

  left_few : (batch n records most : ℕ) → batch < most → AreRecordsLeft batch n records → records ≤ most
  left_few batch zero records most few left = omega (arith, few, left)
  left_few batch (suc zero) records most few (inl left) = omega (arith, few, left)
  left_few batch (suc zero) records most few (inr left) = omega (arith, few, left)
  left_few batch (suc (suc n)) records most few left = omega (arith, few, left)

  -- the record's rest, behind its first cell
  walk_gate : (s : StandingKnown) → Holds p f s t.epoch → IsSame (rest_of s)
      → Walk Begun (at p (logs s t.batch false) (t.batch + 1) leaves_before [] (gate_wants s ++ places p t.batch)) (gate_notes s) (taken_up (at p (logs s (t.batch + 1) false) (t.batch + 1) leaves_before [] (places p t.batch)))
  walk_gate s holds same =
      let c : ℕ = t.batch + 1 in
      let end : Follow = taken_up (at p (logs s c false) c leaves_before [] (places p t.batch)) in
      let last : List Want = Fixed Sync Logs ∷ places p t.batch in
      let mid : List Want = Fixed (Write (log_gate p (area s) t.batch)) MayLog ∷ last in
      let stop_0 : Begun 0 end = (λ y there left. up_stops p (Allows p f y) (at p (logs s c false) c leaves_before [] (places p t.batch))
      (begun_stop s c false (places p t.batch) y holds same there (inl (left ∙ sym (add-one t.batch))) (omega (arith, left, low)))) in
      let walk_0 : Walk Begun end [] end = walk_none Begun end stop_0 in
      let walk_1 : Walk Begun (at p (logs s t.batch true) c leaves_before [] last) (Sync ∷ []) end =
      walk_note Begun (at p (logs s t.batch true) c leaves_before [] last) end end Sync [] (refl, refl)
      (λ y there left. begun_stop s t.batch true last y holds same there (one_or_more t.batch y.records true refl left) (left_few t.batch 1 y.records p.batches low left)) walk_0 in
      let walk_2 : Walk Begun (at p (logs s t.batch false) c leaves_before [] mid) (Write (log_gate p (area s) t.batch) ∷ Sync ∷ []) end =
      walk_note Begun (at p (logs s t.batch false) c leaves_before [] mid) (at p (logs s t.batch true) c leaves_before [] last) end (Write (log_gate p (area s) t.batch)) (Sync ∷ []) (refl, refl)
      (λ y there left. begun_stop s t.batch false mid y holds same there (inl left) (left_few t.batch 2 y.records p.batches low left)) walk_1 in
      walk_note Begun (at p (logs s t.batch false) c leaves_before [] (Fixed Sync Keeps ∷ mid)) (at p (logs s t.batch false) c leaves_before [] mid) end Sync (Write (log_gate p (area s) t.batch) ∷ Sync ∷ []) (refl, refl)
      (λ y there left. begun_stop s t.batch false (Fixed Sync Keeps ∷ mid) y holds same there (inl left) (left_few t.batch 3 y.records p.batches low left)) walk_2

  abbrev IsLogs : StandingKnown → StandingKnown → Option StandingKnown → Type 0
  IsLogs s = λ now newer. (newer ≡ None) × (now ≡ logs s t.batch false)

  walk_record_rest : (s : StandingKnown) → Holds p f s t.epoch → IsSame (rest_of s)
      → Walk Begun (taken_up (at p (logs s t.batch false) (t.batch + 1) leaves_before [] (more_wants s))) (some_writes s 1 parts ++ gate_notes s) (taken_up (at p (logs s (t.batch + 1) false) (t.batch + 1) leaves_before [] (places p t.batch)))
  walk_record_rest s holds same =
      let c : ℕ = t.batch + 1 in
      let start : Follow = taken_up (at p (logs s t.batch false) c leaves_before [] (more_wants s)) in
      let mid : Follow = taken_up (at p (logs s t.batch false) c leaves_before [] (gate_wants s ++ places p t.batch)) in
      let writes : List Note = some_writes s 1 parts in
      let kept_walk : Walk (λ k. Stops p (IsLogs s)) start writes mid = walk_kept p (IsLogs s) (at p (logs s t.batch false) c leaves_before [] []) writes (gate_wants s ++ places p t.batch) (refl, (refl, (refl, refl))) in
      let weak : Walk (λ k. Begun (k + length (gate_notes s))) start writes mid = walk_weaker (λ k. Stops p (IsLogs s)) (λ k. Begun (k + length (gate_notes s))) start mid writes
      (λ k h stops y there left. (let none : y.records ≡ t.batch = none_open t.batch (k + 3) y.records (omega arith) left in
      let may = begun_stop s t.batch false [] y holds same there (inl none) (omega (arith, none, low)) in
      (stops.0, (stops.1.0, subst₂ (λ (now : StandingKnown) (newer : Option StandingKnown). Allows p f y now newer) (sym stops.1.1.1) (sym stops.1.1.0) may.1.1)))) kept_walk in
      walk_join Begun start mid (taken_up (at p (logs s c false) c leaves_before [] (places p t.batch))) writes (gate_notes s) weak (walk_gate s holds same)

  -- the whole record, whether it may be open before or not
  abbrev rest_notes : StandingKnown → List Note
  rest_notes s = some_writes s 1 parts ++ gate_notes s

  abbrev record_end : StandingKnown → Follow
  record_end s = taken_up (at p (logs s (t.batch + 1) false) (t.batch + 1) leaves_before [] (places p t.batch))

  abbrev pub record_next : StandingKnown → Follow
  record_next s = taken_up (at p (logs s t.batch false) (t.batch + 1) leaves_before [] (more_wants s))

  record_stop : (s : StandingKnown) (wants : List Want) → AtTurn p f t generation s → s.logged ≡ t.batch → Begun (suc (length (rest_notes s))) (at p s (t.batch + 1) leaves_before [] wants)
  record_stop s wants is logged y there left =
      let none : y.records ≡ t.batch = none_open t.batch (suc (length (rest_notes s))) y.records (omega (arith, length-append (some_writes s 1 parts) (gate_notes s))) left in
      (refl, (refl, is_there (rest_of s) y s (is.side, (is.generation_gate, is.epoch_gate)) there (inl (none ∙ sym logged)) (omega (arith, none, low)) (is.holds, refl)))

  pub record_wants_of : (s : StandingKnown) (maybe : Bool) → s.logged ≡ t.batch → s.maybe ≡ maybe
      → cond (nat_lt t.batch s.logged) (places p t.batch) (cond ((t.batch == s.logged) && s.maybe) (Record t.batch ∷ []) (record_wants p (other s.epoch) t.batch ++ places p t.batch))
      ≡ cond maybe (Record t.batch ∷ []) (Fixed (Write (log_cell p (area s) t.batch 0)) Keeps ∷ more_wants s)
  record_wants_of s maybe logged is =
      λ i. cond (le-ltb t.batch s.logged (omega (arith, logged)) i) (places p t.batch) (cond (eq-eqb t.batch s.logged (sym logged) i && is i) (Record t.batch ∷ []) (split_wants s i))

  record_by : (s : StandingKnown) (maybe : Bool) → s.maybe ≡ maybe → AtTurn p f t generation s → s.logged ≡ t.batch → Walk Begun (before p f t s) (record_lists s) (record_end s)
  record_by s false none is logged =
      let wants : List Want = Fixed (Write (log_cell p (area s) t.batch 0)) Keeps ∷ more_wants s in
      let g : Follow = at p s (t.batch + 1) leaves_before [] wants in
      let takes : TakesLine g (L.Note (Write (log_cell p (area s) t.batch 0))) (record_next s) = (refl, (λ i. taken_up (at p (record s { logged = sym logged i; maybe = sym none i }) (t.batch + 1) leaves_before [] (more_wants s)))) in
      subst (λ (h : Follow). Walk Begun h (record_lists s) (record_end s)) (sym (loaded s wants (record_wants_of s false logged none)))
      (walk_note Begun g (record_next s) (record_end s) (Write (log_cell p (area s) t.batch 0)) (rest_notes s) takes (record_stop s wants is logged) (walk_record_rest s is.holds (is.side, (is.generation_gate, is.epoch_gate))))
  record_by s true maybe is logged =
      let wants : List Want = Record t.batch ∷ [] in
      let g : Follow = at p s (t.batch + 1) leaves_before [] wants in
      let takes : TakesLine g (L.Note (Write (log_cell p (area s) t.batch 0))) (record_next s) =
      inr (record { is = refl; then = λ i. taken_up (at p (record s { logged = sym logged i; maybe = false }) (t.batch + 1) leaves_before [] (drop 1 (sym (split_wants s) i))) }) in
      subst (λ (h : Follow). Walk Begun h (record_lists s) (record_end s)) (sym (loaded s wants (record_wants_of s true logged maybe)))
      (walk_note Begun g (record_next s) (record_end s) (Write (log_cell p (area s) t.batch 0)) (rest_notes s) takes (record_stop s wants is logged) (walk_record_rest s is.holds (is.side, (is.generation_gate, is.epoch_gate))))

  walk_record : (s : StandingKnown) → AtTurn p f t generation s → s.logged ≡ t.batch → Walk Begun (before p f t s) (record_lists s) (record_end s)
  walk_record s is logged = record_by s s.maybe refl is logged

  abbrev BatchBegun : ℕ → Follow → Type 0
  BatchBegun k h = (y : RunFound) → IsThere t generation y → AreRecordsLeft t.batch (k - length phase) y.records → Stops p (Allows p f y) h

  pub same_area : (s : StandingKnown) → Holds p f s t.epoch → area s ≡ ((public_at p f t.epoch).epoch + 1) % 2
  same_area s holds = (let next : side_number (other s.epoch) ≡ suc t.epoch % 2 = other_side s.epoch t.epoch holds.side in next ∙ ap (λ (n : ℕ). n % 2) (sym (add-one t.epoch) ∙ ap (λ (n : ℕ). n + 1) (sym (epoch_at p f t.epoch))))

  pub walk_begin : (s : StandingKnown) → AtTurn p f t generation s → t.records ≤ t.batch → s.logged ≡ t.batch
      → Stepped BatchBegun (before p f t s) (batch_notes p (public_in_epoch p f t.epoch t.batch) (fills_at p f t.epoch) t.batch)
  walk_begin s is new logged =
      let c : ℕ = t.batch + 1 in
      let s2 : StandingKnown = logs s c false in
      let r2 : Rest = rest_of s2 in
      let holds2 : Holds p f s2 t.epoch = holds_rest p f s t.epoch s.generation s.generation_gate s.epoch_gate c false is.holds in
      let same : IsSame r2 = (is.side, (is.generation_gate, is.epoch_gate)) in
      let mid : Follow = at p s2 c leaves_before [] first_places in
      let there : taken_up (at p s2 c leaves_before [] (places p t.batch)) ≡ mid = ap (λ (ws : List Want). taken_up (at p s2 c leaves_before [] ws)) are_places in
      let records : List Note = record_notes p (((public_at p f t.epoch).epoch + 1) % 2) t.batch in
      let are : record_lists s ≡ records = are_record s ∙ ap (λ (a : ℕ). record_notes p a t.batch) (same_area s is.holds) in
      let first : Walk Begun (before p f t s) records mid = subst₂ (λ (ns : List Note) (h : Follow). Walk Begun (before p f t s) ns h) are there (walk_record s is logged) in
      let first_weak : Walk (λ k. BatchBegun (k + length phase)) (before p f t s) records mid = walk_weaker Begun (λ k. BatchBegun (k + length phase)) (before p f t s) mid records
      (λ k h stops y at_turn left. (let less : (k + length phase) - length phase ≡ k = omega arith in stops y at_turn (subst (λ (n : ℕ). AreRecordsLeft t.batch n y.records) less left))) first in
      let walk = walk_phase s2 holds2 in
      let then : Walk BatchBegun mid phase (after walk.0) = walk_within (InPlaces p f t.epoch r2) BatchBegun mid (after walk.0) phase
      (λ k h few stops y at_turn left. (let none : k - length phase ≡ 0 = omega (arith, few) in
      let all_open : y.records ≡ suc t.batch = subst (λ (n : ℕ). AreRecordsLeft t.batch n y.records) none left in
      there_stops r2 y h same at_turn (inl (all_open ∙ sym (add-one t.batch))) (omega (arith, all_open, low)) stops)) walk.1.1 in (
        walk.0,
        (
          behind_turn s2 walk.0 same is.few walk.1.0 (inr (omega (arith, new), add-one t.batch)),
          walk_join BatchBegun (before p f t s) mid (after walk.0) records phase first_weak then,
        ),
      )
