-- A whole run of a life is a run of a history.
use Rattle.std.specs.Prelude.{◌≡◌, ℕ, ◌+◌, Bool, true, false, List, [], ◌++◌, length}
use Rattle.std.proofs.Common.{suc}
use Rattle.ob_base.specs.Layout.{EpochTwin, GenerationTwin}
use Rattle.ob_base.specs.Tree.{width}
use Rattle.ob_base.specs.declared.params.Params.{Params}
use Rattle.ob_store.specs.declared.watch.Note.{Note}
use Rattle.ob_tables.specs.Rank.{IsRanking}
use Rattle.ob_schedule.specs.Schedule.{Fills, gate_cell, head_notes, open_notes}
use Rattle.ob_recover.specs.Life.{WordId, LifeAct, LifeState, IsLife, formatted_life, life_slots, planned_labels, reached}
use Rattle.ob_recover.specs.LifePublic.{public_in}
use Rattle.ob_fresh.specs.PublicLives.{AreEndsShown}
use Rattle.ob_serial.specs.Vaults.{VaultCall}
use Rattle.ob_vault.specs.KindShown.{steps_notes}
use Rattle.ob_vault.specs.RingKind.{ring_kind}
use Rattle.ob_vault.specs.Shapes.{Shape}
use Rattle.ob_vault.specs.Shown.{AreShownBy}
use Rattle.ob_histories.specs.Fills.{AllFills}
use Rattle.ob_histories.specs.Runs.{HistoryRun, RunFound, run_notes}
use Rattle.ob_admitted.specs.Calls.{AreStepsOf, public_of_life}
use Rattle.ob_admitted.specs.Fills.{FillsAll}
use Rattle.ob_admitted.specs.Publics.{AreRecordsWhole}
use Rattle.ob_admitted.specs.Repeats.{AreRepeatsFilled, begin_acts}

-- what a run finds that begins where the life is, and finds these gates
abbrev pub found_of_life : Params → LifeState → (ℕ → Bool) → RunFound
found_of_life p s found =
    record { epoch = s.epoch; generation = s.generation; records = length s.log; generation_gate = found (gate_cell p GenerationTwin (suc s.generation)); epoch_gate = found (gate_cell p EpochTwin (s.epoch + 1)) }

-- the opening, the batches that it repeats, and the calls that were answered
abbrev pub run_of_life : Params → LifeState → (ℕ → Bool) → List (Shape × Fills) → HistoryRun
run_of_life p s found steps = record { mirrored = false; found = found_of_life p s found; steps = suc (length s.log + length steps); shown = 0 }

-- of the gates known behind the opening, that of the durable epoch is open, and that of the next one as it was found
pub record AreGatesKept (p : Params) (epoch : ℕ) (found gates : ℕ → Bool) : Type 0 where
  pub durable : gates (gate_cell p EpochTwin epoch) ≡ true
  pub next : gates (gate_cell p EpochTwin (epoch + 1)) ≡ found (gate_cell p EpochTwin (epoch + 1))

-- Its fills, and those of its calls, are what its acts show, and these fills too.
pub record IsRunFilled (p : Params) (word_of : WordId → ℕ) (f : AllFills) (s : LifeState) (c : Fills) (calls : List VaultCall) (steps : List (Shape × Fills)) (acts : List LifeAct) : Type 0 where
  pub begins : IsLife p word_of s (begin_acts s (suc s.generation))
  pub life : IsLife p word_of (reached p word_of s (begin_acts s (suc s.generation))) acts
  pub whole : AreRecordsWhole p acts
  pub opening : AreRepeatsFilled p word_of s (suc s.generation) c
  pub opening_slots : FillsAll p word_of f [] (life_slots p word_of s (begin_acts s (suc s.generation)))
  pub steps_are : AreStepsOf calls steps
  pub shown : AreShownBy p word_of (reached p word_of s (begin_acts s (suc s.generation))) calls steps acts
  pub fills : FillsAll p word_of f (planned_labels p word_of (reached p word_of (reached p word_of s (begin_acts s (suc s.generation))) acts)) (life_slots p word_of (reached p word_of s (begin_acts s (suc s.generation))) acts)

abbrev pub notes_of_run : Params → (WordId → ℕ) → LifeState → Fills → (found gates : ℕ → Bool) → List (Shape × Fills) → List Note
notes_of_run p word_of s c found gates steps =
    head_notes ++ open_notes p (public_in p word_of s gates) c found (suc s.generation) (length s.log)
    ++ steps_notes ring_kind p (public_of_life p word_of (reached p word_of s (begin_acts s (suc s.generation))) gates) steps

abbrev pub RunsShowHistories : Type 0
RunsShowHistories = (p : Params) (word_of : WordId → ℕ) (slot : ℕ → ℕ → ℕ) (before : List LifeAct) (f : AllFills) → ((u : ℕ) → IsRanking (width p) (slot u)) → IsLife p word_of (formatted_life slot) before
    → AreEndsShown p word_of (formatted_life slot) before → AreRecordsWhole p before → FillsAll p word_of f (planned_labels p word_of (reached p word_of (formatted_life slot) before)) []
    → (c : Fills) (found gates : ℕ → Bool) (calls : List VaultCall) (steps : List (Shape × Fills)) (acts : List LifeAct) → AreGatesKept p (reached p word_of (formatted_life slot) before).epoch found gates
    → IsRunFilled p word_of f (reached p word_of (formatted_life slot) before) c calls steps acts
    → notes_of_run p word_of (reached p word_of (formatted_life slot) before) c found gates steps ≡ run_notes p f (run_of_life p (reached p word_of (formatted_life slot) before) found steps)
