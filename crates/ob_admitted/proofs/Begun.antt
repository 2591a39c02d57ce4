-- An opening that showed its first sync and stopped, in a row of runs.
use Rattle.std.specs.Prelude.{◌≡◌, ◌⊎◌, ◌<◌, ◌≤◌, ℕ, ◌+◌, ◌-◌, ◌%◌, Bool, true, false, cond, List, [], ◌∷◌, ◌++◌, length, take, Option, None, Some}
use Rattle.std.proofs.Common.{suc, arith, refl, sym, ap, ◌∙◌, subst, inl, inr}
use Rattle.std.proofs.lemmas.Bool.{lt-ltb}
use Rattle.std.proofs.lemmas.List.{append-nil}
use Rattle.ob_base.specs.Layout.{EpochTwin, GenerationTwin}
use Rattle.ob_base.specs.Tree.{width}
use Rattle.ob_base.specs.declared.params.Params.{Params}
use Rattle.ob_store.specs.Disk.{Disk, Image}
use Rattle.ob_store.specs.declared.watch.Note.{Note}
use Rattle.ob_tables.specs.Content.{content_of}
use Rattle.ob_tables.specs.Rank.{IsRanking}
use Rattle.ob_schedule.specs.Schedule.{before_repeats, begun_public, gate_cell, head_notes, open_notes, repeats}
use Rattle.ob_seal.specs.declared.keys.Keys.{Keys}
use Rattle.ob_fresh.specs.PublicLives.{AreEndsShown}
use Rattle.ob_admitted.specs.Publics.{AreRecordsWhole}
use Rattle.ob_stand.proofs.OnceLaws.{register_once}
use Rattle.ob_stand.proofs.OpenLaws.{open_begins}
use Rattle.ob_stand.specs.Stands.{RingStanding, Stands, with_generation}
use Rattle.ob_twin.specs.Keyed.{tagging}
use Rattle.ob_twin.specs.Opening.{is_marked}
use Rattle.ob_twin.specs.Register.{IsOpen, SameOutside, StandsAt, gate_at}
use Rattle.ob_twin.specs.Stops.{IsPlaceLeft}
use Rattle.ob_twin.specs.declared.gates.Gates.{Gates}
use Rattle.ob_recover.proofs.Pads.{life_goes_on}
use Rattle.ob_recover.proofs.LifeLabels.{planned_lasts}
use Rattle.ob_recover.specs.Calls.{Finds}
use Rattle.ob_recover.specs.Finds.{IsFoundOf}
use Rattle.ob_recover.specs.Known.{fills_of, gates_open, public_of_kept}
use Rattle.ob_recover.specs.Life.{IsActAllowed, IsLife, LifeAct, LifeState, Open, WordId, formatted_life, life_slots, life_step, planned_labels, reached}
use Rattle.ob_recover.specs.Lives.{IsLifeAt}
use Rattle.ob_recover.specs.declared.found.Found.{Found}
use Rattle.ob_opening.specs.OpeningActs.{AreGatesIn, StandsInLife, notes_of_opening}
use Rattle.ob_vault.proofs.Fetching.{none_pending, same_act}
use Rattle.ob_vault.proofs.Founding.{found_is_standing}
use Rattle.ob_vault.proofs.Joining.{none_found}
use Rattle.ob_vault.proofs.OpenedLife.{repeats_live}
use Rattle.ob_vault.proofs.OpenedRun.{IsFurther, further, moved}
use Rattle.ob_vault.proofs.Whole.{reached_join}
use Rattle.ob_vault.specs.Acts.{AreBatchesSmall}
use Rattle.ob_histories.proofs.Finding.{epoch_at}
use Rattle.ob_histories.specs.Fills.{AllFills, public_at}
use Rattle.ob_histories.specs.Histories.{IsGateLeft, IsGenerationLeft, MayFind}
use Rattle.ob_histories.specs.Runs.{HistoryRun, RunFound, is_settled, opening_reads, opening_step}
use Rattle.ob_admitted.specs.Fills.{FillsAll}
use Rattle.ob_admitted.specs.Lives.{IsLifeFilled, IsRepeatedLeft, IsRepeatedRun}
use Rattle.ob_admitted.specs.Openings.{IsOpeningShown}
use Rattle.ob_admitted.specs.Repeats.{begin_acts}
use Rattle.ob_admitted.specs.Rows.{IsRunShown}
use Rattle.ob_admitted.specs.Stopped.{IsBegunLeft, StopsBegun, begun_row, public_of_found, reads_of_opening}
use Rattle.ob_admitted.specs.Wholes.{found_of_life}
use Rattle.ob_admitted.proofs.Gating.{both_marked, marked_epoch, marked_generation, marked_open, open_marked, place_found, two_places}
use Rattle.ob_admitted.proofs.Lives.{Shown, one_run, take_front}
use Rattle.ob_admitted.proofs.Openings as openings
use Rattle.ob_admitted.proofs.Parts.{Filled, filled_first, filled_last}
use Rattle.ob_admitted.proofs.Rowing.{Row, goes_on, run_one}
use Rattle.ob_admitted.proofs.Stopped.{At, IsSound, Last, Tail, filled_at, gates_of, sound_then}
use Rattle.ob_admitted.proofs.Walking.{LeftWithin, SmallWithin}
use Rattle.ob_admitted.proofs.Wholes.{repeats_ended, repeats_whole}

module _ (keys : Keys) (p : Params) (word_of : WordId → ℕ) (slot : ℕ → ℕ → ℕ) (ranked : (u : ℕ) → IsRanking (width p) (slot u)) (old new : Disk) (notes : List Note) (b : StopsBegun keys p old new notes)
    (before : List LifeAct) (sound : IsSound keys p word_of slot before) (stands : StandsInLife keys p word_of (At keys p word_of slot before) old.cells) (few : AreBatchesSmall (At keys p word_of slot before).log) where
  abbrev s : LifeState
  s = At keys p word_of slot before

  abbrev found : Found
  found = b.found

  abbrev st : RingStanding
  st = stands.standing

  abbrev pub gates : ℕ → Bool
  gates = gates_open found.gates

  pub gates_in : AreGatesIn found.gates old.cells
  gates_in = record { generation = (b.found_in).generation_gates; epoch = (b.found_in).epoch_gates }

  same : IsFoundOf st found
  same = found_is_standing keys p st old.cells found stands.stands b.found_in

  generation_is : found.generation ≡ s.generation
  generation_is = same.generation ∙ stands.generation

  epoch_is : found.epoch ≡ s.epoch
  epoch_is = same.epoch ∙ stands.epoch

  abbrev x : RunFound
  x = found_of_life p s gates

  -- ---- its notes

  abbrev again : List Note
  again = repeats p (begun_public gates (public_of_found p found)) (fills_of p (content_of found.tables) found.records) 0 (length found.records)

  module _ (f : AllFills) where
    step_is : begun_row p found ≡ opening_step p f false x
    step_is =
        ap (λ (n : ℕ). head_notes ++ before_repeats p (public_of_found p found) gates (suc n)) generation_is
        ∙ ap (λ (e : ℕ). head_notes ++ before_repeats p (record (public_at p f s.epoch) { epoch = e }) (λ cell. x.generation_gate) (suc s.generation)) (epoch_is ∙ sym (epoch_at p f s.epoch))

    reads_are : reads_of_opening p found.epoch ≡ opening_reads p f false x
    reads_are = ap (λ (e : ℕ). reads_of_opening p e) (epoch_is ∙ sym (epoch_at p f s.epoch))

    pub settled : is_settled p f false x 0 b.count ≡ true
    settled = lt-ltb (length (opening_reads p f false x)) b.count (subst (λ (n : ℕ). n < b.count) (ap (λ (ns : List Note). length ns) reads_are) b.settled)

    lacking_is : (lack : ℕ) → length (begun_row p found) - b.count ≡ lack → length (opening_step p f false x) - b.count ≡ lack
    lacking_is lack is = ap (λ (ns : List Note). length ns - b.count) (sym step_is) ∙ is

    -- of one that stopped before its repeats
    pub short_shows : b.count ≤ length (begun_row p found) → notes ≡ take b.count (opening_step p f false x)
    short_shows short = b.notes_are ∙ take_front b.count (begun_row p found) again short ∙ ap (λ (ns : List Note). take b.count ns) step_is

  -- ---- its images

  life_begun : IsLifeAt p word_of st.content st.records (life_step p word_of s (Open (suc s.generation)))
  life_begun = record {
    table = (stands.life).table;
    slots = (stands.life).slots;
    homes = (stands.life).homes;
    book = (stands.life).book;
    kept = (stands.life).kept;
    log = (stands.life).log;
    words = (stands.life).words;
  }

  pub stands_old : (c : Image) → SameOutside 1 c old.cells → StandsAt (tagging keys) 1 c found.generation → StandsInLife keys p word_of s c
  stands_old c rest number = record {
    standing = st;
    stands = (open_begins keys p st (suc st.generation) c old.cells stands.stands).old (record { stands = subst (λ (n : ℕ). StandsAt (tagging keys) 1 c n) same.generation number; rest = rest });
    epoch = stands.epoch;
    generation = stands.generation;
    life = stands.life;
  }

  new_standing : (c : Image) → SameOutside 1 c old.cells → StandsAt (tagging keys) 1 c (suc found.generation) → Stands keys p (with_generation st (suc st.generation)) c
  new_standing c rest number =
      (open_begins keys p st (suc st.generation) c old.cells stands.stands).new (omega arith) (record { stands = subst (λ (n : ℕ). StandsAt (tagging keys) 1 c (suc n)) same.generation number; rest = rest })

  stands_new : (c : Image) → SameOutside 1 c old.cells → StandsAt (tagging keys) 1 c (suc found.generation) → StandsInLife keys p word_of (life_step p word_of s (Open (suc s.generation))) c
  stands_new c rest number = record { standing = with_generation st (suc st.generation); stands = new_standing c rest number; epoch = stands.epoch; generation = ap suc stands.generation; life = life_begun }

  stood : StandsAt (tagging keys) 1 old.cells s.generation
  stood = subst (λ (n : ℕ). StandsAt (tagging keys) 1 old.cells n) stands.generation (stands.stands).generation

  -- the gate of the next epoch is as it was
  epoch_gate_is : (c : Image) → SameOutside 1 c old.cells → (g : Gates) → AreGatesIn g c → gates_open g (gate_cell p EpochTwin (s.epoch + 1)) ≡ x.epoch_gate
  epoch_gate_is c rest g are =
      let m : ℕ = (s.epoch + 1) % 2 in
      marked_epoch g m (two_places (s.epoch + 1)) ∙ both_marked g.epoch (found.gates).epoch 5 c old.cells m (two_places (s.epoch + 1)) are.epoch gates_in.epoch (rest (gate_at 5 m) (inr (omega arith)))
      ∙ sym (marked_epoch found.gates m (two_places (s.epoch + 1)))

  -- the gate of the next generation, where that hasn't begun
  gate_is : (c : Image) (lack : ℕ) → 0 < lack → IsPlaceLeft (tagging keys) 1 (suc s.generation) old.cells lack c → StandsAt (tagging keys) 1 c s.generation → (g : Gates) → AreGatesIn g c
      → IsGateLeft x.generation_gate lack (gates_open g (gate_cell p GenerationTwin (suc s.generation)))
  gate_is c lack some left number g are =
      let m : ℕ = suc s.generation % 2 in
      let was : x.generation_gate ≡ is_marked (found.gates).generation m = marked_generation found.gates m (two_places (suc s.generation)) in
      let now : gates_open g (gate_cell p GenerationTwin (suc s.generation)) ≡ is_marked g.generation m = marked_generation g m (two_places (suc s.generation)) in
      place_found (tagging keys) 1 s.generation old.cells c stood lack x.generation_gate (gates_open g (gate_cell p GenerationTwin (suc s.generation))) some
      (λ yes. marked_open (found.gates).generation 1 old.cells m (two_places (suc s.generation)) gates_in.generation (sym was ∙ yes))
      (λ opened. was ∙ open_marked (found.gates).generation 1 old.cells m (two_places (suc s.generation)) gates_in.generation opened)
      (λ yes. marked_open g.generation 1 c m (two_places (suc s.generation)) are.generation (sym now ∙ yes))
      (λ opened. now ∙ open_marked g.generation 1 c m (two_places (suc s.generation)) are.generation opened)
      number left

  -- ---- one that stopped before its repeats

  abbrev pub run : HistoryRun
  run = record { mirrored = false; found = x; steps = 0; shown = b.count }

  abbrev pub short_run : (f : AllFills) → b.count ≤ length (begun_row p found) → IsRunShown p f s gates notes
  short_run f short = record { run = run; alone = refl; finds = refl; shows = short_shows f short }

  -- what is found behind it where the generation hasn't begun
  pub short_finds : (f : AllFills) (lack : ℕ) → length (begun_row p found) - b.count ≡ suc lack → (c : Image) → IsBegunLeft keys found.generation old.cells (suc lack) c → StandsAt (tagging keys) 1 c found.generation → (g : Gates) → AreGatesIn g c
      → MayFind p f (Some run) (found_of_life p s (gates_open g))
  short_finds f lack is c left number g are =
      let y : RunFound = found_of_life p s (gates_open g) in
      let at : StandsAt (tagging keys) 1 c s.generation = subst (λ (n : ℕ). StandsAt (tagging keys) 1 c n) generation_is number in
      let place : IsPlaceLeft (tagging keys) 1 (suc s.generation) old.cells (suc lack) c = subst (λ (n : ℕ). IsPlaceLeft (tagging keys) 1 (suc n) old.cells (suc lack) c) generation_is (((left.gates).register).place) in
      subst (λ (n : ℕ). (y.epoch ≡ x.epoch) × (y.epoch_gate ≡ x.epoch_gate) × (y.records ≡ x.records) × IsGenerationLeft x n y) (sym (lacking_is f (suc lack) is))
      (refl, epoch_gate_is c (left.gates).rest g are, refl, (refl, gate_is c (suc lack) (omega arith) place at g are))

  abbrev lacking : ℕ
  lacking = length (begun_row p found) - b.count

  pub left_by : (lack : ℕ) → lacking ≡ lack → (c : Image) → new.may_leave c → IsBegunLeft keys found.generation old.cells lack c
  left_by lack is c will = subst (λ (n : ℕ). IsBegunLeft keys found.generation old.cells n c) is (b.left c will)

  -- the row behind one that showed its first sync
  after_short : (f : AllFills) (latest : Option HistoryRun) (rows : List (List Note)) → Row p word_of f (Some run) rows → Row p word_of f (cond (is_settled p f false x 0 b.count) (Some run) latest) rows
  after_short f latest rows row = subst (λ (so : Bool). Row p word_of f (cond so (Some run) latest) rows) (sym (settled f)) row

  pub sound_none : (xs : List LifeAct) → xs ≡ [] → IsSound keys p word_of slot (before ++ xs)
  sound_none xs none = subst (λ (ys : List LifeAct). IsSound keys p word_of slot ys) (sym (append-nil before) ∙ ap (λ (ys : List LifeAct). before ++ ys) (sym none)) sound

  -- ---- two of its notes or more lack: the generation hasn't begun

  abbrev pub last_short : Last keys p word_of slot
  last_short = record {
    t = s;
    pending = None;
    IsSo = λ c. Unit {0};
    acts = λ xs. before ++ xs;
    there = λ xs. reached_join p word_of (formatted_life slot) before xs;
    sound = λ xs finds life. sound_none xs (none_found xs finds);
  }

  module _ (lack : ℕ) (is : lacking ≡ suc (suc lack)) where
    pub left_short : LeftWithin {S = Unit {0}} (λ u. new) keys p word_of s None new.may_leave
    left_short c will =
        let left : IsBegunLeft keys found.generation old.cells (suc (suc lack)) c = left_by (suc (suc lack)) is c will in
        record {
          allowed = λ a e. none_pending (IsActAllowed p word_of s a) a e;
          stands = λ i same_as. inl (subst (λ (y : Image). StandsInLife keys p word_of s y) same_as (stands_old c (left.gates).rest left.stands));
        }

    pub small_short : SmallWithin {S = Unit {0}} (λ u. new) keys p word_of s None
    small_short xs finds = subst (λ (ys : List LifeAct). AreBatchesSmall (reached p word_of s ys).log) (sym (none_found xs finds)) few

    finds_short : (f : AllFills) (c : Image) → new.may_leave c → (xs : List LifeAct) → Finds None xs → (g : Gates) → AreGatesIn g c → MayFind p f (Some run) (found_of_life p (reached p word_of s xs) (gates_open g))
    finds_short f c will xs finds g are =
        let left : IsBegunLeft keys found.generation old.cells (suc (suc lack)) c = left_by (suc (suc lack)) is c will in
        subst (λ (ys : List LifeAct). MayFind p f (Some run) (found_of_life p (reached p word_of s ys) (gates_open g))) (sym (none_found xs finds)) (short_finds f (suc lack) is c left left.stands g are)

    pub short_goes : (rows : List (List Note)) (tail : Tail keys p word_of slot last_short new.may_leave rows) (f : AllFills) → Filled p word_of f s (tail.found ++ tail.later) → (latest : Option HistoryRun) → MayFind p f latest x → Row p word_of f latest (notes ∷ rows)
    short_goes rows tail f filled latest finds =
        run_one p word_of f s gates notes (short_run f (omega (arith, is))) latest finds rows
        (after_short f latest rows (tail.goes f filled (Some run) (record {
          finds = λ c will xs found_so stands_then g are so. finds_short f c will xs found_so g are;
          reads = λ c will xs found_so stands_then. (let (g, are) = gates_of c in (found_of_life p (reached p word_of s xs) (gates_open g), finds_short f c will xs found_so g are, refl));
        })))

  -- ---- just the sync lacks behind the write that opens its gate: it may have begun, but the next one that shows its first sync found it hasn't

  pub sound_unsure : (xs : List LifeAct) → Finds (Some (Open (suc s.generation))) xs → IsLife p word_of s xs → IsSound keys p word_of slot (before ++ xs)
  sound_unsure xs (inl none) life = sound_none xs none
  sound_unsure xs (inr (a, flies, are)) life =
      let opens : xs ≡ Open (suc s.generation) ∷ [] = are ∙ ap (λ (act : LifeAct). act ∷ []) (sym (same_act (Open (suc s.generation)) a flies)) in
      sound_then keys p word_of slot before xs sound life (subst (λ (ys : List LifeAct). AreEndsShown p word_of s ys) (sym opens) tt) (subst (λ (ys : List LifeAct). AreRecordsWhole p ys) (sym opens) tt)

  abbrev pub last_unsure : Last keys p word_of slot
  last_unsure = record {
    t = s;
    pending = Some (Open (suc s.generation));
    IsSo = λ c. StandsAt (tagging keys) 1 c found.generation;
    acts = λ xs. before ++ xs;
    there = λ xs. reached_join p word_of (formatted_life slot) before xs;
    sound = sound_unsure;
  }

  pub small_opened : (xs : List LifeAct) → Finds (Some (Open (suc s.generation))) xs → AreBatchesSmall (reached p word_of s xs).log
  small_opened xs (inl none) = subst (λ (ys : List LifeAct). AreBatchesSmall (reached p word_of s ys).log) (sym none) few
  small_opened xs (inr (a, flies, are)) =
      subst (λ (ys : List LifeAct). AreBatchesSmall (reached p word_of s ys).log) (sym (are ∙ ap (λ (act : LifeAct). act ∷ []) (sym (same_act (Open (suc s.generation)) a flies)))) few

  module _ (is : lacking ≡ 1) where
    pub left_unsure : LeftWithin {S = Unit {0}} (λ u. new) keys p word_of s (Some (Open (suc s.generation))) new.may_leave
    left_unsure c will =
        let left : IsBegunLeft keys found.generation old.cells 1 c = left_by 1 is c will in
        record {
          allowed = λ a flies. subst (λ (act : LifeAct). IsActAllowed p word_of s act) (same_act (Open (suc s.generation)) a flies) (omega arith);
          stands = λ i same_as. either left.stands i same_as;
        }
      where
        rest : SameOutside 1 c old.cells
        rest = ((left_by 1 is c will).gates).rest

        either : StandsAt (tagging keys) 1 c found.generation ⊎ StandsAt (tagging keys) 1 c (suc found.generation) → (i : Image) → c ≡ i
            → StandsInLife keys p word_of s i ⊎ ((a : LifeAct) × (Some (Open (suc s.generation)) ≡ Some a) × StandsInLife keys p word_of (life_step p word_of s a) i)
        either (inl number) i same_as = inl (subst (λ (y : Image). StandsInLife keys p word_of s y) same_as (stands_old c rest number))
        either (inr number) i same_as = inr (Open (suc s.generation), refl, subst (λ (y : Image). StandsInLife keys p word_of (life_step p word_of s (Open (suc s.generation))) y) same_as (stands_new c rest number))

    finds_unsure : (f : AllFills) (c : Image) → new.may_leave c → (xs : List LifeAct) → Finds (Some (Open (suc s.generation))) xs → StandsInLife keys p word_of (reached p word_of s xs) c → StandsAt (tagging keys) 1 c found.generation → (g : Gates) → AreGatesIn g c
        → MayFind p f (Some run) (found_of_life p (reached p word_of s xs) (gates_open g))
    finds_unsure f c will xs (inl none) stands_then number g are =
        subst (λ (ys : List LifeAct). MayFind p f (Some run) (found_of_life p (reached p word_of s ys) (gates_open g))) (sym none) (short_finds f 0 is c (left_by 1 is c will) number g are)
    finds_unsure f c will xs (inr (a, flies, opens)) stands_then number g are =
        let begun : (reached p word_of s xs).generation ≡ suc s.generation =
        ap (λ (ys : List LifeAct). (reached p word_of s ys).generation) opens ∙ ap (λ (act : LifeAct). (life_step p word_of s act).generation) (sym (same_act (Open (suc s.generation)) a flies)) in
        let once : found.generation ≡ (stands_then.standing).generation = register_once (tagging keys) 1 c found.generation (stands_then.standing).generation number (stands_then.stands).generation in
        let never : suc s.generation ≡ s.generation = sym begun ∙ sym stands_then.generation ∙ sym once ∙ generation_is in
        absurd (omega (arith, never))

    -- an opening that only reads may find it
    reads_unsure : (f : AllFills) (c : Image) → new.may_leave c → (xs : List LifeAct) → Finds (Some (Open (suc s.generation))) xs → StandsInLife keys p word_of (reached p word_of s xs) c → (y : RunFound) × MayFind p f (Some run) y × (y.epoch ≡ (reached p word_of s xs).epoch)
    reads_unsure f c will xs (inl none) stands_then =
        let (g, are) = gates_of c in
        let at : StandsAt (tagging keys) 1 c s.generation =
        subst (λ (n : ℕ). StandsAt (tagging keys) 1 c n) (stands_then.generation ∙ ap (λ (ys : List LifeAct). (reached p word_of s ys).generation) none) (stands_then.stands).generation in
        let number : StandsAt (tagging keys) 1 c found.generation = subst (λ (n : ℕ). StandsAt (tagging keys) 1 c n) (sym generation_is) at in
        (found_of_life p (reached p word_of s xs) (gates_open g), finds_unsure f c will xs (inl none) stands_then number g are, refl)
    reads_unsure f c will xs (inr (a, flies, opens)) stands_then =
        let y : RunFound = record { epoch = s.epoch; generation = s.generation; records = length s.log; generation_gate = false; epoch_gate = x.epoch_gate } in
        let may : MayFind p f (Some run) y =
        subst (λ (n : ℕ). (y.epoch ≡ x.epoch) × (y.epoch_gate ≡ x.epoch_gate) × (y.records ≡ x.records) × IsGenerationLeft x n y) (sym (lacking_is f 1 is)) (refl, refl, refl, (refl, refl)) in
        (y, may, sym (ap (λ (ys : List LifeAct). (reached p word_of s ys).epoch) opens ∙ ap (λ (act : LifeAct). (life_step p word_of s act).epoch) (sym (same_act (Open (suc s.generation)) a flies))))

    pub unsure_goes : (rows : List (List Note)) (tail : Tail keys p word_of slot last_unsure new.may_leave rows) (f : AllFills) → Filled p word_of f s (tail.found ++ tail.later) → (latest : Option HistoryRun) → MayFind p f latest x → Row p word_of f latest (notes ∷ rows)
    unsure_goes rows tail f filled latest finds =
        run_one p word_of f s gates notes (short_run f (omega (arith, is))) latest finds rows
        (after_short f latest rows (tail.goes f filled (Some run) (record {
          finds = λ c will xs found_so stands_then g are so. finds_unsure f c will xs found_so stands_then so g are;
          reads = λ c will xs found_so stands_then. reads_unsure f c will xs found_so stands_then;
        })))

  -- ---- none lacks: it has begun, and batches were repeated

  abbrev pub begins : List LifeAct
  begins = begin_acts s (suc s.generation)

  abbrev pub then : LifeState
  then = reached p word_of s begins

  on : IsFurther (life_step p word_of s (Open (suc s.generation))) then (length s.log)
  on = further p word_of (life_step p word_of s (Open (suc s.generation))) (length s.log)

  life_begins : IsLife p word_of s begins
  life_begins = (omega arith, repeats_live p word_of (life_step p word_of s (Open (suc s.generation))) (length s.log) (omega arith))

  pub sound_begun : (xs : List LifeAct) → xs ≡ [] → IsSound keys p word_of slot (before ++ (begins ++ xs))
  sound_begun xs none = subst (λ (ys : List LifeAct). IsSound keys p word_of slot (before ++ ys)) (sym (append-nil begins) ∙ ap (λ (ys : List LifeAct). begins ++ ys) (sym none))
      (sound_then keys p word_of slot before begins sound life_begins (repeats_ended p word_of (life_step p word_of s (Open (suc s.generation))) (length s.log)) (repeats_whole p word_of (length s.log)))

  pub there_begun : (xs : List LifeAct) → At keys p word_of slot (before ++ (begins ++ xs)) ≡ reached p word_of then xs
  there_begun xs = reached_join p word_of (formatted_life slot) before (begins ++ xs) ∙ reached_join p word_of s begins xs

  abbrev pub last_begun : Last keys p word_of slot
  last_begun = record { t = then; pending = None; IsSo = λ c. Unit {0}; acts = λ xs. before ++ (begins ++ xs); there = there_begun; sound = λ xs finds life. sound_begun xs (none_found xs finds) }

  pub life_then : (xs : List LifeAct) → IsLife p word_of then xs → IsLife p word_of s (begins ++ xs)
  life_then xs life = life_goes_on p word_of s begins xs life_begins life

  module _ (is : lacking ≡ 0) where
    stands_then : (c : Image) → new.may_leave c → StandsInLife keys p word_of then c
    stands_then c will =
        let left : IsBegunLeft keys found.generation old.cells 0 c = left_by 0 is c will in
        record {
          standing = with_generation st (suc st.generation);
          stands = new_standing c (left.gates).rest left.stands;
          epoch = stands.epoch ∙ sym on.epoch;
          generation = ap suc stands.generation ∙ sym on.generation;
          life = moved p word_of st.content st.records (life_step p word_of s (Open (suc s.generation))) then (length s.log) on life_begun;
        }

    pub left_begun : LeftWithin {S = Unit {0}} (λ u. new) keys p word_of then None new.may_leave
    left_begun c will = record {
      allowed = λ a e. none_pending (IsActAllowed p word_of then a) a e;
      stands = λ i same_as. inl (subst (λ (y : Image). StandsInLife keys p word_of then y) same_as (stands_then c will));
    }

    pub small_begun : SmallWithin {S = Unit {0}} (λ u. new) keys p word_of then None
    small_begun xs finds = subst (λ (ys : List LifeAct). AreBatchesSmall (reached p word_of then ys).log) (sym (none_found xs finds)) (subst AreBatchesSmall (sym on.log) few)

    -- the gate of the generation before stays open
    stays_open : (c : Image) → new.may_leave c → (g : Gates) → AreGatesIn g c → gates_open g (gate_cell p GenerationTwin (suc then.generation)) ≡ true
    stays_open c will g are =
        let left : IsBegunLeft keys found.generation old.cells 0 c = left_by 0 is c will in
        let m : ℕ = (suc found.generation + 1) % 2 in
        let back : s.generation % 2 ≡ m = (let at = generation_is in omega (arith, at)) in
        let on_place : m ≡ suc then.generation % 2 = (let at = generation_is in let next = on.generation in omega (arith, at, next)) in
        let opened : IsOpen 1 c m = ((left.gates).register).other ∙ subst (λ (n : ℕ). IsOpen 1 old.cells n) back stood.open_at in
        marked_generation g (suc then.generation % 2) (two_places (suc then.generation))
        ∙ open_marked g.generation 1 c (suc then.generation % 2) (two_places (suc then.generation)) are.generation (subst (λ (n : ℕ). IsOpen 1 c n) on_place opened)

    epoch_stays : (c : Image) → new.may_leave c → (g : Gates) → AreGatesIn g c → (found_of_life p then (gates_open g)).epoch_gate ≡ x.epoch_gate
    epoch_stays c will g are =
        ap (λ (e : ℕ). gates_open g (gate_cell p EpochTwin (e + 1))) on.epoch ∙ epoch_gate_is c ((left_by 0 is c will).gates).rest g are

    left_so : (c : Image) → new.may_leave c → (g : Gates) → AreGatesIn g c → IsRepeatedLeft p word_of s gates begins (gates_open g)
    left_so c will g are = record { again = length s.log; acts_are = refl; stays = stays_open c will g are; epoch_stays = epoch_stays c will g are }

    -- the schedule's opening of what stands
    opening_notes : notes ≡ take b.count (head_notes ++ notes_of_opening p st found.gates (length st.records) [] found.gates)
    opening_notes = b.notes_are ∙ (let c = same.content in let r = same.records in let e = same.epoch in let n = same.generation in
        λ i. take b.count (head_notes ++ open_notes p (public_of_kept p (c i) [] (e i) found.gates) (fills_of p (c i) (r i)) gates (suc (n i)) (length (r i))))

    abbrev opening : IsOpeningShown keys p word_of s old.cells notes
    opening = record { here = stands; gates = found.gates; are = gates_in; shown = []; known = found.gates; count = b.count; notes_are = opening_notes }

    module _ (f : AllFills) (here : IsLifeFilled p word_of slot f before) (filled : Filled p word_of f s begins) where
      fills_then : FillsAll p word_of f (planned_labels p word_of s) (life_slots p word_of s begins)
      fills_then = record { leaves = λ l h. filled.leaves l (planned_lasts p word_of s begins l h); slots_are = filled.slots_are }

      repeated_run : IsRepeatedRun p word_of f s gates notes
      repeated_run = record {
        opening = openings.fills keys p word_of f s old.cells notes opening;
        gates = gates;
        count = b.count;
        kept = openings.kept keys p word_of f s old.cells notes opening;
        filled = openings.run_filled keys p word_of f s old.cells notes opening fills_then;
        begun = (let many = ap (λ (ns : List Note). length ns) (step_is f) in omega (arith, is, many));
        shown = openings.all_notes keys p word_of f s old.cells notes opening;
      }

      pub shown_so : Shown p word_of slot f ranked before gates notes (λ acts next. IsRepeatedLeft p word_of s gates acts next)
      shown_so = one_run p word_of slot f ranked before gates notes here (inr (inr repeated_run))

      abbrev history : HistoryRun
      history = shown_so.0.run

      abbrev after : Option HistoryRun → Option HistoryRun
      after latest = cond (is_settled p f history.mirrored history.found history.steps history.shown) (Some history) latest

      pub found_so : (latest : Option HistoryRun) → MayFind p f latest x → (c : Image) → new.may_leave c → (xs : List LifeAct) → Finds None xs → (g : Gates) → AreGatesIn g c → MayFind p f (after latest) (found_of_life p (reached p word_of then xs) (gates_open g))
      found_so latest finds_here c will xs finds g are =
          let settled_is : Bool = is_settled p f history.mirrored history.found history.steps history.shown in
          let here_finds : MayFind p f latest history.found = subst (λ (y : RunFound). MayFind p f latest y) (sym shown_so.0.finds) finds_here in
          subst (λ (ys : List LifeAct). MayFind p f (after latest) (found_of_life p (reached p word_of then ys) (gates_open g))) (sym (none_found xs finds))
          (goes_on p word_of f history latest (found_of_life p then (gates_open g)) settled_is here_finds (shown_so.1 begins (gates_open g) (left_so c will g are)))

    pub begun_goes : (rows : List (List Note)) (tail : Tail keys p word_of slot last_begun new.may_leave rows) (f : AllFills) → Filled p word_of f s (begins ++ (tail.found ++ tail.later)) → (latest : Option HistoryRun) → MayFind p f latest x
        → Row p word_of f latest (notes ∷ rows)
    begun_goes rows tail f filled latest finds =
        let all : List LifeAct = tail.found ++ tail.later in
        let here : IsLifeFilled p word_of slot f before = filled_at keys p word_of slot f before (begins ++ all) sound filled in
        let own : Filled p word_of f s begins = filled_first p word_of f s begins all filled in
        run_one p word_of f s gates notes (shown_so f here own).0 latest finds rows
        (tail.goes f (filled_last p word_of f s begins all filled) (after f here own latest) (record {
          finds = λ c will xs found_none stands_at g are so. found_so f here own latest finds c will xs found_none g are;
          reads = λ c will xs found_none stands_at.
              (let (g, are) = gates_of c in (found_of_life p (reached p word_of then xs) (gates_open g), found_so f here own latest finds c will xs found_none g are, refl));
        }))
