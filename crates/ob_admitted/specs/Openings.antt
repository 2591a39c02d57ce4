-- An opening that was refused, where the image stood for the life, is a run as a history's.
use Rattle.std.specs.Prelude.{◌≡◌, ◌⊎◌, ℕ, List, ◌++◌, length, take}
use Rattle.ob_base.specs.declared.params.Params.{Params}
use Rattle.ob_store.specs.Disk.{Image}
use Rattle.ob_store.specs.declared.watch.Note.{Note}
use Rattle.ob_log.specs.Logs.{BatchRecord}
use Rattle.ob_schedule.specs.Schedule.{head_notes}
use Rattle.ob_seal.specs.declared.keys.Keys.{Keys}
use Rattle.ob_twin.specs.declared.gates.Gates.{Gates}
use Rattle.ob_recover.specs.Known.{gates_open}
use Rattle.ob_recover.specs.Life.{WordId, LifeState, planned_labels, planned_slots}
use Rattle.ob_opening.specs.OpeningActs.{AreGatesIn, StandsInLife, notes_of_opening}
use Rattle.ob_histories.specs.Fills.{AllFills}
use Rattle.ob_admitted.specs.Fills.{FillsAll}
use Rattle.ob_admitted.specs.Lives.{IsRepeatedRun, IsStoppedRun}

-- The head, and of the opening of what stands, with the gates that are found there, so many notes: whatever batches and gates a run before
-- it knew.
pub record IsOpeningShown (keys : Keys) (p : Params) (word_of : WordId → ℕ) (s : LifeState) (image : Image) (notes : List Note) : Type 0 where
  pub here : StandsInLife keys p word_of s image
  pub gates : Gates
  pub are : AreGatesIn gates image
  pub shown : List BatchRecord
  pub known : Gates
  pub count : ℕ
  pub notes_are : notes ≡ take count (head_notes ++ notes_of_opening p (here.standing) gates (length (here.standing).records) shown known)

-- where a life may go on so that all that the running epoch may show is these fills
abbrev pub OpeningsAreRuns : Type 0
OpeningsAreRuns = (keys : Keys) (p : Params) (word_of : WordId → ℕ) (f : AllFills) (s : LifeState) (image : Image) (notes : List Note) (is : IsOpeningShown keys p word_of s image notes)
    → FillsAll p word_of f (planned_labels p word_of s) (planned_slots p word_of s) → IsStoppedRun p word_of f s (gates_open is.gates) notes ⊎ IsRepeatedRun p word_of f s (gates_open is.gates) notes
