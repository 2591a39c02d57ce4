-- What an auditor knows behind an opening that stopped, and so behind a run that was refused.
use Rattle.std.specs.Prelude.{◌≡◌, ◌⊎◌, suc, List, length, Option}
use Rattle.ob_base.specs.declared.params.Params.{Params}
use Rattle.ob_recover.specs.Finds.{IsFoundInRing}
use Rattle.ob_recover.specs.Life.{LifeAct}
use Rattle.ob_recover.specs.declared.found.Found.{Found}
use Rattle.ob_schedule.specs.Follow.{Follow}
use Rattle.ob_seal.specs.declared.keys.Keys.{Keys}
use Rattle.ob_store.specs.Disk.{Disk, Image}
use Rattle.ob_store.specs.Lines.{Shows}
use Rattle.ob_store.specs.declared.watch.Note.{Note}
use Rattle.ob_twin.specs.Keyed.{tagging}
use Rattle.ob_twin.specs.Register.{StandsAt}
use Rattle.ob_admitted.specs.Stopped.{IsStopShown, begun_row}
use Rattle.ob_top.specs.Auditors.{AreNotesAudited, AuditorKnows, IsRunAudited}
use Rattle.ob_top.specs.Parts.{head_cells}
use Rattle.ob_top.specs.Pasts.{PastLife}
use Rattle.ob_top.specs.Refusals.{CameToHead, StoppedInOpening, notes_when_stopped}
use Rattle.ob_top.specs.Rows.{TracedRun}

-- An image that an opening left which showed these notes. But for one case: where the last of them is the write that opens its generation's gate,
-- without the sync, just one that stands at the generation before.
pub record IsSurelyLeft (keys : Keys) (p : Params) (old new : Disk) (notes : List Note) (image : Image) : Type 0 where
  pub left : new.may_leave image
  pub before : (found : Found) → IsFoundInRing keys p old.cells found → length (begun_row p found) ≡ suc (length notes) → StandsAt (tagging keys) 1 image found.generation

-- what this store holds, and what a crash would leave of it
abbrev pub IsHeldOrLeft : Disk → Image → Type 0
IsHeldOrLeft old image = (image ≡ old.cells) ⊎ old.may_leave image

module _ {S : Type 0} (disk : S → Disk) where
  -- Whoever knows a life at a store goes on so with an opening of that, which stopped anywhere: with each image that it surely left.
  abbrev pub StopsAreRead : Type 0
  StopsAreRead = (keys : Keys) (p : Params) (past : PastLife) (in_flight : Option LifeAct) (known : Follow) (old new : S) (notes : List Note) → AuditorKnows keys p past in_flight (IsHeldOrLeft (disk old)) known
      → IsStopShown keys p (disk old) (disk new) notes → AreNotesAudited keys p past known notes (IsSurelyLeft keys p (disk old) (disk new) notes)

  -- So it is of a run whose opening was refused;
  abbrev pub OpeningsAreRead : Type 0
  OpeningsAreRead = (keys : Keys) (p : Params) (past : PastLife) (in_flight : Option LifeAct) (known : Follow) (r : TracedRun S) → AuditorKnows keys p past in_flight (IsHeldOrLeft (disk r.old)) known
      → (r.by).head ≡ head_cells → (stopped : StoppedInOpening disk keys p r) → Shows (notes_when_stopped disk keys p r stopped) r.first r.last
      × AreNotesAudited keys p past known (notes_when_stopped disk keys p r stopped) (IsSurelyLeft keys p (disk r.old) (disk r.new) (notes_when_stopped disk keys p r stopped))

  -- and of one that came to the head at most, with each image that it left.
  abbrev pub HeadsAreRead : Type 0
  HeadsAreRead = (keys : Keys) (p : Params) (past : PastLife) (in_flight : Option LifeAct) (known : Follow) (r : TracedRun S) → AuditorKnows keys p past in_flight (IsHeldOrLeft (disk r.old)) known
      → (r.by).head ≡ head_cells → CameToHead disk keys p r → IsRunAudited disk keys p past known r
