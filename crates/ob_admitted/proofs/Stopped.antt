-- Rows of runs in which openings stopped are histories.
use Rattle.std.specs.Prelude.{◌≡◌, ◌≢◌, ◌⊎◌, ◌↔◌, ◌≤◌, ℕ, ◌+◌, ◌%◌, Bool, true, false, IsTrue, List, [], ◌∷◌, ◌++◌, length, take, Option, Some}
use Rattle.std.proofs.Common.{zero, suc, append_assoc, arith, refl, sym, ap, ◌∙◌, subst, inl, inr}
use Rattle.std.proofs.lemmas.Bool.{cases_eq, false≢true}
use Rattle.ob_base.specs.Layout.{EpochTwin, GenerationTwin, LogArea}
use Rattle.ob_base.specs.declared.params.Params.{Params}
use Rattle.ob_store.specs.Disk.{Disk, Image}
use Rattle.ob_store.specs.declared.watch.Note.{Note}
use Rattle.ob_store.specs.declared.watch.Note.TheVariants.{Sync}
use Rattle.ob_schedule.specs.Schedule.{check_cells, head_notes, reads_of, region_cells, set_twin}
use Rattle.ob_seal.specs.declared.keys.Keys.{Keys}
use Rattle.ob_fresh.specs.PublicLives.{AreEndsShown}
use Rattle.ob_twin.specs.Bodies.{open_gate}
use Rattle.ob_twin.specs.Keyed.{tagging}
use Rattle.ob_twin.specs.declared.gates.Gates.{Gates}
use Rattle.ob_recover.proofs.LifeLabels.{planned_lasts}
use Rattle.ob_recover.proofs.Pads.{life_goes_on}
use Rattle.ob_recover.specs.Calls.{Finds}
use Rattle.ob_recover.specs.Known.{gates_open}
use Rattle.ob_recover.specs.Life.{IsActAllowed, IsLife, LifeAct, LifeState, WordId, formatted_life, reached}
use Rattle.ob_opening.proofs.ActLaws.{FoundActs, found_acts}
use Rattle.ob_opening.specs.OpeningActs.{AreGatesIn, IsLeftAt, StandsInLife}
use Rattle.ob_twin.specs.Register.{StandsAt, gate_at}
use Rattle.ob_histories.proofs.Finding.{epoch_at}
use Rattle.ob_histories.specs.Fills.{AllFills, public_at}
use Rattle.ob_histories.specs.Histories.{MayFind}
use Rattle.ob_histories.specs.Runs.{HistoryRun, RunFound, opening_reads, opening_step}
use Rattle.ob_admitted.specs.Lives.{IsLifeFilled}
use Rattle.ob_admitted.specs.Publics.{AreRecordsWhole}
use Rattle.ob_admitted.specs.Rows.{IsBarelyOpened}
use Rattle.ob_admitted.specs.Stopped.{StopsReading, reads_of_opening}
use Rattle.ob_admitted.specs.Wholes.{found_of_life}
use Rattle.ob_admitted.proofs.Acts.{ends_join, whole_join}
use Rattle.ob_admitted.proofs.Parts.{Filled, filled_last}
use Rattle.ob_admitted.proofs.Rowing.{Row, barely_one}

-- ---- lists

-- a front of a list is one of what it begins
pub front_of : {X : Type 0} (n : ℕ) (xs ys : List X) → (m : ℕ) × (m ≤ length xs) × (take n xs ≡ take m (xs ++ ys))
front_of zero xs ys = (0, omega arith, refl)
front_of (suc n) [] ys = (0, omega arith, refl)
front_of {X} (suc n) (x ∷ xs) ys = (let rest = front_of n xs ys in (suc rest.0, (let few = rest.1 in omega (arith, few)), ap (λ (zs : List X). x ∷ zs) rest.2))

none_some : (x : ℕ) (xs : List ℕ) → [] ≡ x ∷ xs → ⊥
none_some x xs e = cc e

same_head : (x y : ℕ) (xs ys : List ℕ) → x ∷ xs ≡ y ∷ ys → x ≡ y
same_head x y xs ys e = cc e

same_tail : (x y : ℕ) (xs ys : List ℕ) → x ∷ xs ≡ y ∷ ys → xs ≡ ys
same_tail x y xs ys e = cc e

same_or_not : (xs ys : List ℕ) → (xs ≡ ys) ⊎ (xs ≡ ys → ⊥)
same_or_not [] [] = inl refl
same_or_not [] (y ∷ ys) = inr (λ e. none_some y ys e)
same_or_not (x ∷ xs) [] = inr (λ e. none_some x xs (sym e))
same_or_not (x ∷ xs) (y ∷ ys) = both (cases_eq x y) (same_or_not xs ys)
  where
    both : (x ≡ y) ⊎ (x ≢ y) → (xs ≡ ys) ⊎ (xs ≡ ys → ⊥) → (x ∷ xs ≡ y ∷ ys) ⊎ (x ∷ xs ≡ y ∷ ys → ⊥)
    both (inl one) (inl rest) = inl (λ i. one i ∷ rest i)
    both (inr one) rest = inr (λ e. one (same_head x y xs ys e))
    both (inl one) (inr rest) = inr (λ e. rest (same_tail x y xs ys e))

-- ---- the gates of an image

gate_in : (image : Image) (cell : ℕ) → (b : Bool) × (IsTrue b ↔ (image cell ≡ open_gate))
gate_in image cell = by (same_or_not (image cell) open_gate)
  where
    by : (image cell ≡ open_gate) ⊎ (image cell ≡ open_gate → ⊥) → (b : Bool) × (IsTrue b ↔ (image cell ≡ open_gate))
    by (inl is) = (true, (λ yes. is, λ yes. refl))
    by (inr never) = (false, (λ yes. absurd (false≢true yes), λ is. absurd (never is)))

pub gates_of : (image : Image) → (g : Gates) × AreGatesIn g image
gates_of image =
    let a = gate_in image (gate_at 1 0) in
    let b = gate_in image (gate_at 1 1) in
    let c = gate_in image (gate_at 5 0) in
    let d = gate_in image (gate_at 5 1) in
    (record { generation = record { zero = a.0; one = b.0 }; epoch = record { zero = c.0; one = d.0 } }, record { generation = record { zero = a.1; one = b.1 }; epoch = record { zero = c.1; one = d.1 } })

-- ---- what an opening reads

module _ (p : Params) (f : AllFills) where
  -- it shows no more than the first of its reads
  pub reads_barely : (x : RunFound) (epoch : ℕ) → x.epoch ≡ epoch → (notes : List Note) (count : ℕ) → notes ≡ take count (reads_of_opening p epoch) → IsBarelyOpened p f x notes
  reads_barely x epoch same notes count is =
      let e : ℕ = (public_at p f x.epoch).epoch in
      let set : List Note = set_twin p GenerationTwin (suc x.generation) x.generation_gate in
      let here : reads_of_opening p epoch ≡ opening_reads p f false x = ap (λ (n : ℕ). reads_of_opening p n) (sym same ∙ sym (epoch_at p f x.epoch)) in
      let all : opening_step p f false x ≡ opening_reads p f false x ++ ((Sync ∷ []) ++ set) =
      ap (λ (ns : List Note). head_notes ++ ns)
      (append_assoc ((reads_of (region_cells p GenerationTwin ++ region_cells p EpochTwin) ++ reads_of (check_cells p (e % 2))) ++ reads_of (region_cells p (LogArea ((e + 1) % 2)))) (Sync ∷ []) set) in
      let front = front_of count (opening_reads p f false x) ((Sync ∷ []) ++ set) in
      record {
        count = front.0;
        few = front.1;
        shows = is ∙ ap (λ (ns : List Note). take count ns) here ∙ front.2 ∙ ap (λ (ns : List Note). take front.0 ns) (sym all);
      }

-- ---- a row, run by run

module _ (keys : Keys) (p : Params) (word_of : WordId → ℕ) (slot : ℕ → ℕ → ℕ) where
  abbrev pub At : List LifeAct → LifeState
  At before = reached p word_of (formatted_life slot) before

  -- acts from the format on
  pub record IsSound (acts : List LifeAct) : Type 0 where
    pub life : IsLife p word_of (formatted_life slot) acts
    pub ends : AreEndsShown p word_of (formatted_life slot) acts
    pub whole : AreRecordsWhole p acts

  pub sound_then : (before first : List LifeAct) → IsSound before → IsLife p word_of (At before) first → AreEndsShown p word_of (At before) first → AreRecordsWhole p first → IsSound (before ++ first)
  sound_then before first here life ends whole = record {
    life = life_goes_on p word_of (formatted_life slot) before first here.life life;
    ends = ends_join p word_of (formatted_life slot) before first here.ends ends;
    whole = whole_join p word_of before first here.whole whole;
  }

  pub filled_at : (f : AllFills) (before later : List LifeAct) → IsSound before → Filled p word_of f (At before) later → IsLifeFilled p word_of slot f before
  filled_at f before later here filled = record {
    life = here.life;
    ends = here.ends;
    whole = here.whole;
    filled = record { leaves = λ l h. filled.leaves l (planned_lasts p word_of (At before) later l h); slots_are = λ x h. absurd h };
  }

  -- The last run that showed its first sync left the life here, with this act in flight, behind these acts and what is found of that. The next one
  -- that shows its own begins at an image that is so.
  pub record Last : Type 1 where
    pub t : LifeState
    pub pending : Option LifeAct
    pub IsSo : Image → Type 0
    pub acts : List LifeAct → List LifeAct
    pub there : (xs : List LifeAct) → At (acts xs) ≡ reached p word_of t xs
    pub sound : (found : List LifeAct) → Finds pending found → IsLife p word_of t found → IsSound (acts found)

  -- what is found at an image that may be left is what a run of a history leaves; so may an opening find that only reads
  pub record Leaves (l : Last) (may_leave : Image → Type 0) (f : AllFills) (last : Option HistoryRun) : Type 0 where
    pub finds : (c : Image) → may_leave c → (found : List LifeAct) → Finds l.pending found → StandsInLife keys p word_of (reached p word_of l.t found) c → (g : Gates) → AreGatesIn g c → l.IsSo c
        → MayFind p f last (found_of_life p (reached p word_of l.t found) (gates_open g))
    pub reads : (c : Image) → may_leave c → (found : List LifeAct) → Finds l.pending found → StandsInLife keys p word_of (reached p word_of l.t found) c → (x : RunFound) × MayFind p f last x × (x.epoch ≡ (reached p word_of l.t found).epoch)

  -- the runs behind it go on with the life, and are a history's
  pub record Tail (l : Last) (may_leave : Image → Type 0) (rows : List (List Note)) : Type 0 where
    pub found : List LifeAct
    pub is_found : Finds l.pending found
    pub later : List LifeAct
    pub life : IsLife p word_of l.t (found ++ later)
    pub goes : (f : AllFills) → Filled p word_of f l.t (found ++ later) → (last : Option HistoryRun) → Leaves l may_leave f last → Row p word_of f last rows

  pub tail_none : (l : Last) (may_leave : Image → Type 0) → Tail l may_leave []
  tail_none l may_leave = record { found = []; is_found = inl refl; later = []; life = tt; goes = λ f filled last leaves. ([], (tt, refl)) }

  pub found_life : (s : LifeState) (pending : Option LifeAct) (found : List LifeAct) → ((a : LifeAct) → pending ≡ Some a → IsActAllowed p word_of s a) → Finds pending found → IsLife p word_of s found
  found_life s pending found allowed (inl none) = subst (λ (xs : List LifeAct). IsLife p word_of s xs) (sym none) tt
  found_life s pending found allowed (inr (a, flies, is)) = subst (λ (xs : List LifeAct). IsLife p word_of s xs) (sym is) (allowed a flies, tt)

  -- an opening that only reads leaves all as it was
  pub tail_reads : (old new : Disk) (notes : List Note) (rows : List (List Note)) (l : Last) (may_leave : Image → Type 0) → may_leave old.cells → ((c : Image) → old.may_leave c → may_leave c) → IsLeftAt keys p word_of l.t l.pending old.cells
      → StopsReading keys p old new notes → Tail l new.may_leave rows → Tail l may_leave (notes ∷ rows)
  tail_reads old new notes rows l may_leave may within left reads tail = record {
    found = tail.found;
    is_found = tail.is_found;
    later = tail.later;
    life = tail.life;
    goes = λ f filled last leaves.
        let b : FoundActs keys p word_of l.t l.pending old.cells = found_acts keys p word_of l.t l.pending old.cells left in
        let epoch : ℕ = (reached p word_of l.t b.found).epoch in
        let (x, finds, same) = leaves.reads old.cells may b.found b.finds b.here in
        let (count, is) = reads.shown epoch (subst (λ (n : ℕ). StandsAt (tagging keys) 5 old.cells n) (b.here).epoch (((b.here).stands).epoch)) in
        barely_one p word_of f last x finds notes (reads_barely p f x epoch same notes count is) rows
        (tail.goes f filled last (record {
          finds = λ c will. leaves.finds c (within c (reads.shrinks c will));
          reads = λ c will. leaves.reads c (within c (reads.shrinks c will));
        }));
  }

  -- a run that shows its first sync, where the life goes on
  pub tail_settled : (cells : Image) (notes : List Note) (rows : List (List Note)) (l : Last) (may_leave : Image → Type 0) → may_leave cells → (left : IsLeftAt keys p word_of l.t l.pending cells) (b : FoundActs keys p word_of l.t l.pending cells) → l.IsSo cells
      → (g : Gates) → AreGatesIn g cells → (all : List LifeAct) → IsLife p word_of (At (l.acts b.found)) all
      → ((f : AllFills) → Filled p word_of f (At (l.acts b.found)) all → (last : Option HistoryRun) → MayFind p f last (found_of_life p (At (l.acts b.found)) (gates_open g)) → Row p word_of f last (notes ∷ rows)) → Tail l may_leave (notes ∷ rows)
  tail_settled cells notes rows l may_leave may left b so g are all life goes = record {
    found = b.found;
    is_found = b.finds;
    later = all;
    life = life_goes_on p word_of l.t b.found all (found_life l.t l.pending b.found left.allowed b.finds) (subst (λ (u : LifeState). IsLife p word_of u all) (l.there b.found) life);
    goes = λ f filled last leaves. goes f
        (subst (λ (u : LifeState). Filled p word_of f u all) (sym (l.there b.found)) (filled_last p word_of f l.t b.found all filled)) last
        (subst (λ (u : LifeState). MayFind p f last (found_of_life p u (gates_open g))) (sym (l.there b.found)) (leaves.finds cells may b.found b.finds b.here g are so));
  }
