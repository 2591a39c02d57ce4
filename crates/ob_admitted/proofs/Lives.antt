-- The runs of a life, one behind the other.
use Rattle.std.specs.Prelude.{◌≡◌, ◌<◌, ◌≤◌, ◌⊎◌, ℕ, ◌+◌, Bool, true, false, cond, List, [], ◌∷◌, ◌++◌, Some, None, take, length}
use Rattle.std.proofs.Common.{zero, suc, arith, refl, sym, ap, ◌∙◌, subst, inl, inr}
use Rattle.std.proofs.lemmas.List.{append-nil}
use Rattle.ob_base.specs.Layout.{EpochTwin, GenerationTwin}
use Rattle.ob_base.specs.Tree.{width}
use Rattle.ob_base.specs.declared.params.Params.{Params}
use Rattle.ob_store.specs.declared.watch.Note.{Note}
use Rattle.ob_tables.specs.Rank.{IsRanking}
use Rattle.ob_schedule.specs.Schedule.{gate_cell}
use Rattle.ob_recover.specs.Calls.{repeated}
use Rattle.ob_recover.specs.Life.{WordId, LifeAct, LifeState, Open, formatted_life, life_step, reached}
use Rattle.ob_fresh.proofs.Publics.{open_formatted}
use Rattle.ob_vault.proofs.OpenedRun.{further}
use Rattle.ob_vault.proofs.Whole.{reached_join}
use Rattle.ob_histories.specs.Fills.{AllFills}
use Rattle.ob_histories.specs.Histories.{MayFind}
use Rattle.ob_histories.specs.Runs.{HistoryRun, HistoryTurn, RunFound, first_turn, is_settled, notes_from, opening_step}
use Rattle.ob_histories.proofs.Lists.{front_cases, take_whole}
use Rattle.ob_admitted.specs.Between.{IsOpeningFoundAsShown, turn_of_run}
use Rattle.ob_admitted.specs.Lives.{AreBarelyInRow, AreRunsInLife, IsLeftInRow, IsLifeFilled, IsRepeatedLeft, IsRepeatedRun, IsRunInRow, IsStoppedLeft, IsStoppedRun, LivesAreAdmitted}
use Rattle.ob_admitted.specs.Rows.{AreBarelyOpened, AreRunsShown, IsRunShown, LeavesFound, RunNotes}
use Rattle.ob_admitted.specs.Wholes.{found_of_life, run_of_life}
use Rattle.ob_admitted.proofs.Betweens.{runs_leave, turns_pass}
use Rattle.ob_admitted.proofs.Fronts.{Front, front_turns}
use Rattle.ob_admitted.proofs.Publics.{formatted_goes, goes_along}
use Rattle.ob_admitted.proofs.Rowing.{rows_are}
use Rattle.ob_admitted.proofs.Serving.{served}
use Rattle.ob_admitted.proofs.Stopping.{openings_leave, repeats_leave}
use Rattle.ob_admitted.proofs.Wholes.{runs_show}

pub take_front : {X : Type 0} (n : ℕ) (xs ys : List X) → n ≤ length xs → take n (xs ++ ys) ≡ take n xs
take_front zero xs ys few = refl
take_front (suc n) [] ys few = absurd (omega (arith, few))
take_front {X} (suc n) (x ∷ xs) ys few = ap (λ (zs : List X). x ∷ zs) (take_front n xs ys (omega (arith, few)))

module _ (p : Params) (word_of : WordId → ℕ) (f : AllFills) (s : LifeState) (found gates : ℕ → Bool) (room : length s.log ≤ p.batches) where
  abbrev x : RunFound
  x = found_of_life p s found

  abbrev Found : List LifeAct → RunFound
  Found acts = found_of_life p (reached p word_of s acts) gates

  abbrev again_acts : ℕ → List LifeAct
  again_acts m = Open (suc s.generation) ∷ repeated m

  -- repeats change nothing of what is found
  same_found : (m n : ℕ) → Found (again_acts m) ≡ Found (again_acts n)
  same_found m n =
      let one = further p word_of (life_step p word_of s (Open (suc s.generation))) m in
      let two = further p word_of (life_step p word_of s (Open (suc s.generation))) n in
      let epoch : (reached p word_of s (again_acts m)).epoch ≡ (reached p word_of s (again_acts n)).epoch = one.epoch ∙ sym two.epoch in
      let generation : (reached p word_of s (again_acts m)).generation ≡ (reached p word_of s (again_acts n)).generation = one.generation ∙ sym two.generation in
      let log : (reached p word_of s (again_acts m)).log ≡ (reached p word_of s (again_acts n)).log = one.log ∙ sym two.log in
      (λ i. record {
        epoch = epoch i;
        generation = generation i;
        records = length (log i);
        generation_gate = gates (gate_cell p GenerationTwin (suc (generation i)));
        epoch_gate = gates (gate_cell p EpochTwin (epoch i + 1));
      })

  -- behind all that it repeats
  all_again : (m whole shown : ℕ) → whole ≡ length s.log + 0 → shown ≡ 0 → (Found (again_acts m)).generation_gate ≡ true → (Found (again_acts m)).epoch_gate ≡ x.epoch_gate
      → MayFind p f (Some (record { mirrored = false; found = x; steps = suc whole; shown = shown })) (Found (again_acts m))
  all_again m whole shown all none stays gate =
      let n : ℕ = length s.log in
      let same : Found (again_acts m) ≡ Found (again_acts n) = same_found m n in
      let turn : (turn_of_run p s found []).gate ≡ x.epoch_gate = ap (λ (t : HistoryTurn). t.gate) (turns_pass p f s.epoch x.records x.epoch_gate n 0 0 (omega (arith, room))) in
      let leaves : MayFind p f (Some (record (run_of_life p s found []) { shown = 0 })) (Found (again_acts n)) =
      runs_leave p word_of f s found gates [] [] [] room tt refl None 0 [] tt refl (ap (λ (y : RunFound). y.generation_gate) (sym same) ∙ stays)
      (refl, ap (λ (y : RunFound). y.epoch_gate) (sym same) ∙ gate ∙ sym turn) in
      subst (λ (y : RunFound). MayFind p f (Some (record { mirrored = false; found = x; steps = suc whole; shown = shown })) y) (sym same)
      (subst (λ (k : ℕ). MayFind p f (Some (record { mirrored = false; found = x; steps = suc whole; shown = k })) (Found (again_acts n))) (sym none)
      (subst (λ (k : ℕ). MayFind p f (Some (record { mirrored = false; found = x; steps = suc k; shown = 0 })) (Found (again_acts n))) (sym all) leaves))

  leaves_again : (m whole shown : ℕ) → (whole < length s.log + 0) ⊎ ((whole ≡ length s.log + 0) × (shown ≡ 0)) → (Found (again_acts m)).generation_gate ≡ true → (Found (again_acts m)).epoch_gate ≡ x.epoch_gate
      → MayFind p f (Some (record { mirrored = false; found = x; steps = suc whole; shown = shown })) (Found (again_acts m))
  leaves_again m whole shown (inl few) stays gate = repeats_leave p word_of f s found gates whole shown m (omega (arith, few)) room stays gate
  leaves_again m whole shown (inr (all, none)) stays gate = all_again m whole shown all none stays gate

module _ (p : Params) (word_of : WordId → ℕ) (slot : ℕ → ℕ → ℕ) (f : AllFills) (ranked : (u : ℕ) → IsRanking (width p) (slot u)) where
  abbrev At : List LifeAct → LifeState
  At before = reached p word_of (formatted_life slot) before

  -- a run's notes are shown, and whatever may be found behind it is left
  abbrev pub Shown : (before : List LifeAct) (found : ℕ → Bool) (notes : List Note) → (Left : List LifeAct → (ℕ → Bool) → Type 0) → Type 0
  Shown before found notes Left = (one : IsRunShown p f (At before) found notes) × ((acts : List LifeAct) (next : ℕ → Bool) → Left acts next → LeavesFound p f one.run (found_of_life p (reached p word_of (At before) acts) next))

  by_settled : (b : Bool) (run : HistoryRun) (x y : RunFound) → (IsOpeningFoundAsShown p f x run.shown y → MayFind p f (Some run) y) → cond b (IsOpeningFoundAsShown p f x run.shown y) (y ≡ x) → cond b (MayFind p f (Some run) y) (y ≡ x)
  by_settled true run x y leaves is = leaves is
  by_settled false run x y leaves is = is

  stopped : (before : List LifeAct) (found : ℕ → Bool) (notes : List Note) → IsLifeFilled p word_of slot f before → (is : IsStoppedRun p word_of f (At before) found notes) → Shown before found notes (λ acts next. IsStoppedLeft p word_of f (At before) found is.count acts next)
  stopped before found notes here is =
      let x : RunFound = found_of_life p (At before) found in
      let run : HistoryRun = record { mirrored = false; found = x; steps = 0; shown = is.count } in (
        record {
          run = run;
          alone = refl;
          finds = refl;
          shows = is.shown ∙ ap (λ (ns : List Note). take is.count ns) (runs_show p word_of slot before f ranked here.life here.ends here.whole here.filled is.opening found is.gates [] [] [] is.kept is.filled)
              ∙ take_front is.count (opening_step p f false x) (notes_from p f (first_turn x) (length (At before).log + 0) 0) is.short;
        },
        λ acts next left. by_settled (is_settled p f false x 0 is.count) run x (found_of_life p (reached p word_of (At before) acts) next) (λ shown. openings_leave p word_of f (At before) found next is.count acts left.first shown) left.as_shown,
      )

  room_at : (before : List LifeAct) → IsLifeFilled p word_of slot f before → length (At before).log ≤ p.batches
  room_at before here =
      let some : 0 < p.dummies = (let one = p.in_range.some_dummies in omega (arith, one)) in
      (goes_along p word_of f some (formatted_life slot) before here.life here.ends here.whole (open_formatted p word_of some slot ranked) (formatted_goes p word_of f slot) here.filled.leaves).room

  -- a run that stopped behind its opening
  module _ (before : List LifeAct) (found : ℕ → Bool) (notes : List Note) (here : IsLifeFilled p word_of slot f before) (is : IsRepeatedRun p word_of f (At before) found notes) where
    abbrev s : LifeState
    s = At before

    abbrev start : RunFound
    start = found_of_life p s found

    abbrev opening : List Note
    opening = opening_step p f false start

    abbrev turns : List Note
    turns = notes_from p f (first_turn start) (length s.log + 0) 0

    all : notes ≡ take is.count (opening ++ turns)
    all = is.shown ∙ ap (λ (ns : List Note). take is.count ns) (runs_show p word_of slot before f ranked here.life here.ends here.whole here.filled is.opening found is.gates [] [] [] is.kept is.filled)

    by_length : ((is.count ≤ length opening) × (take is.count (opening ++ turns) ≡ take is.count opening)) ⊎ ((m : ℕ) × ((is.count ≡ length opening + m) × (take is.count (opening ++ turns) ≡ opening ++ take m turns)))
        → (m : ℕ) × (take is.count (opening ++ turns) ≡ opening ++ take m turns)
    by_length (inl (few, same)) = (0, same ∙ take_whole is.count opening is.begun ∙ sym (append-nil opening))
    by_length (inr (m, (count, same))) = (m, same)

    abbrev Left : List LifeAct → (ℕ → Bool) → Type 0
    Left acts next = IsRepeatedLeft p word_of s found acts next

    within : (m : ℕ) → take is.count (opening ++ turns) ≡ opening ++ take m turns → Shown before found notes Left
    within m same =
        let w : Front p f (length s.log + 0) (first_turn start) (take m turns) = front_turns p f (length s.log + 0) (first_turn start) m in
        let run : HistoryRun = record { mirrored = false; found = start; steps = suc w.0; shown = w.1 } in (
          record { run = run; alone = refl; finds = refl; shows = all ∙ same ∙ ap (λ (ns : List Note). opening ++ ns) (sym w.2) },
          λ acts next left.
              subst (λ (xs : List LifeAct). MayFind p f (Some run) (found_of_life p (reached p word_of s xs) next)) (sym left.acts_are)
              (leaves_again p word_of f s found next (room_at before here) left.again w.0 w.1 w.3
              (subst (λ (xs : List LifeAct). (found_of_life p (reached p word_of s xs) next).generation_gate ≡ true) left.acts_are left.stays)
              (subst (λ (xs : List LifeAct). (found_of_life p (reached p word_of s xs) next).epoch_gate ≡ start.epoch_gate) left.acts_are left.epoch_stays)),
        )

    again : Shown before found notes Left
    again = (let front = by_length (front_cases is.count opening turns) in within front.0 front.1)

  pub one_run : (before : List LifeAct) (found : ℕ → Bool) (notes : List Note) → IsLifeFilled p word_of slot f before → (run : IsRunInRow p word_of f (At before) found notes) → Shown before found notes (λ acts next. IsLeftInRow p word_of f (At before) found notes run acts next)
  one_run before found notes here (inl is) = served p word_of slot before f ranked here.life here.ends here.whole here.filled found notes is
  one_run before found notes here (inr (inl is)) = stopped before found notes here is
  one_run before found notes here (inr (inr is)) = again before found notes here is

  barely_opened : (before : List LifeAct) (found : ℕ → Bool) (notes : List Note) (run : IsRunInRow p word_of f (At before) found notes) (one : Shown before found notes (λ acts next. IsLeftInRow p word_of f (At before) found notes run acts next))
      (barely : List (List Note)) → AreBarelyInRow p word_of f (At before) found notes run barely → AreBarelyOpened p f one.0.run barely
  barely_opened before found notes run one [] are = tt
  barely_opened before found notes run one (some ∷ more) ((acts, next, left, is), rest) =
      ((found_of_life p (reached p word_of (At before) acts) next, one.1 acts next left, is), barely_opened before found notes run one more rest)

  runs_go_on : (runs : List RunNotes) (before : List LifeAct) (found : ℕ → Bool) → AreRunsInLife p word_of slot f before found runs → AreRunsShown p word_of f (At before) found runs
  runs_go_on [] before found are = tt
  runs_go_on (notes ∷ runs) before found (here, run, barely, inl last) =
      let one = one_run before found notes.0 here run in
      (one.0, barely_opened before found notes.0 run one notes.1 barely, inl last)
  runs_go_on (notes ∷ runs) before found (here, run, barely, inr (acts, next, left, rest)) =
      let one = one_run before found notes.0 here run in (
        one.0,
        barely_opened before found notes.0 run one notes.1 barely,
        inr (acts, next, one.1 acts next left, subst (λ (s : LifeState). AreRunsShown p word_of f s next runs) (reached_join p word_of (formatted_life slot) before acts) (runs_go_on runs (before ++ acts) next rest)),
      )

pub lives_are : LivesAreAdmitted
lives_are p word_of slot f found runs ranked filled generation_gate epoch_gate are = rows_are p word_of slot f found runs filled generation_gate epoch_gate (runs_go_on p word_of slot f ranked runs [] found are)
