-- What a run of a life has shown that was cut off is what a run of a history has shown.
use Rattle.std.specs.Prelude.{◌≡◌, ℕ, Bool, false, List, [], ◌++◌, take}
use Rattle.std.proofs.Common.{suc}
use Rattle.ob_base.specs.Tree.{width}
use Rattle.ob_base.specs.declared.params.Params.{Params}
use Rattle.ob_tables.specs.Rank.{IsRanking}
use Rattle.ob_schedule.specs.Schedule.{Fills}
use Rattle.ob_recover.specs.Life.{WordId, LifeAct, LifeState, IsLife, formatted_life, life_slots, planned_labels, reached}
use Rattle.ob_fresh.specs.PublicLives.{AreEndsShown}
use Rattle.ob_serial.specs.Vaults.{VaultCall}
use Rattle.ob_vault.specs.KindShown.{public_behind}
use Rattle.ob_vault.specs.Lives.{IsCutInLife}
use Rattle.ob_vault.specs.RingKind.{ring_kind}
use Rattle.ob_vault.specs.Seen.{RingPublic, ring_notes}
use Rattle.ob_vault.specs.Shapes.{Shape, shape_of}
use Rattle.ob_histories.specs.Fills.{AllFills}
use Rattle.ob_histories.specs.Runs.{HistoryRun, run_notes}
use Rattle.ob_admitted.specs.Calls.{public_of_life}
use Rattle.ob_admitted.specs.Fills.{FillsAll}
use Rattle.ob_admitted.specs.Publics.{AreRecordsWhole}
use Rattle.ob_admitted.specs.Repeats.{begin_acts}
use Rattle.ob_admitted.specs.Wholes.{AreGatesKept, IsRunFilled, found_of_life, notes_of_run, run_of_life}

-- where the life is behind an opening and the acts of calls, and what is public behind these calls
abbrev pub life_behind_calls : Params → (WordId → ℕ) → LifeState → List LifeAct → LifeState
life_behind_calls p word_of s acts = reached p word_of (reached p word_of s (begin_acts s (suc s.generation))) acts

abbrev pub public_of_calls : Params → (WordId → ℕ) → LifeState → (ℕ → Bool) → List (Shape × Fills) → RingPublic
public_of_calls p word_of s gates steps = public_behind ring_kind p (public_of_life p word_of (reached p word_of s (begin_acts s (suc s.generation))) gates) steps

-- The life may go on with the acts in which a refused call would show. Its fills are what these show, and these fills too.
pub record IsCutFilled (p : Params) (word_of : WordId → ℕ) (f : AllFills) (s : LifeState) (call : VaultCall) (c : Fills) : Type 0 where
  pub cut : IsCutInLife p word_of s call c
  pub whole : AreRecordsWhole p cut.acts
  pub fills : FillsAll p word_of f (planned_labels p word_of (reached p word_of s cut.acts)) (life_slots p word_of s cut.acts)

-- A run's calls that were answered, and so many notes of the one that was refused behind them, are so many whole steps of a history's run, and
-- as many notes of the step behind them.
abbrev pub CutRunsShowHistories : Type 0
CutRunsShowHistories = (p : Params) (word_of : WordId → ℕ) (slot : ℕ → ℕ → ℕ) (before : List LifeAct) (f : AllFills) → ((u : ℕ) → IsRanking (width p) (slot u)) → IsLife p word_of (formatted_life slot) before
    → AreEndsShown p word_of (formatted_life slot) before → AreRecordsWhole p before → FillsAll p word_of f (planned_labels p word_of (reached p word_of (formatted_life slot) before)) []
    → (c : Fills) (found gates : ℕ → Bool) (calls : List VaultCall) (steps : List (Shape × Fills)) (acts : List LifeAct) → AreGatesKept p (reached p word_of (formatted_life slot) before).epoch found gates
    → IsRunFilled p word_of f (reached p word_of (formatted_life slot) before) c calls steps acts
    → (call : VaultCall) (d : Fills) (count : ℕ) → IsCutFilled p word_of f (life_behind_calls p word_of (reached p word_of (formatted_life slot) before) acts) call d
    → notes_of_run p word_of (reached p word_of (formatted_life slot) before) c found gates steps
    ++ take count (ring_notes p (public_of_calls p word_of (reached p word_of (formatted_life slot) before) gates steps) (shape_of call) d)
    ≡ run_notes p f (record (run_of_life p (reached p word_of (formatted_life slot) before) found steps) { shown = count })

-- What an opening that stopped has shown, so many of its notes, with those of the batches that it repeats, is a history's run too.
abbrev pub CutOpeningsShowHistories : Type 0
CutOpeningsShowHistories = (p : Params) (word_of : WordId → ℕ) (slot : ℕ → ℕ → ℕ) (before : List LifeAct) (f : AllFills) → ((u : ℕ) → IsRanking (width p) (slot u)) → IsLife p word_of (formatted_life slot) before
    → AreEndsShown p word_of (formatted_life slot) before → AreRecordsWhole p before → FillsAll p word_of f (planned_labels p word_of (reached p word_of (formatted_life slot) before)) []
    → (c : Fills) (found gates : ℕ → Bool) (count : ℕ) → AreGatesKept p (reached p word_of (formatted_life slot) before).epoch found gates
    → IsRunFilled p word_of f (reached p word_of (formatted_life slot) before) c [] [] []
    → (run : HistoryRun) × ((run.mirrored ≡ false) × (run.found ≡ found_of_life p (reached p word_of (formatted_life slot) before) found)
    × (take count (notes_of_run p word_of (reached p word_of (formatted_life slot) before) c found gates []) ≡ run_notes p f run))
