-- A call in two stages, parted by the store as it was between them.
use Rattle.std.specs.Prelude.{List, Option}
use Rattle.ob_store.specs.Disk.{Disk, Image}
use Rattle.ob_store.specs.Images.{LeavesOnly}
use Rattle.ob_store.specs.declared.event.Event.{Event}

-- By the end of the first one just these calls of the store were made. A crash at any moment of it leaves the one, and at any moment of the
-- other stage the other.
pub record InTwoStages {S : Type 0} (disk : S → Disk) (Made : Option (List Event) → Option (List Event) → Type 0) (P Q : Image → Type 0) (old new : S) : Type 0 where
  pub between : S
  pub made : Made (disk old).seen (disk between).seen
  pub until : LeavesOnly (disk old) (disk between) P
  pub since : LeavesOnly (disk between) (disk new) Q
