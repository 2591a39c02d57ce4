-- A second half that is made from the first.
use Rattle.std.specs.Prelude.{◌≡◌, ◌<◌, ◌≤◌, ℕ, List, map, Option, Result, Ok, Err}
use Rattle.ob_store.specs.declared.event.Event.{Event}
use Rattle.ob_store.specs.declared.event.Event.TheVariants.{Write}
use Rattle.ob_store.specs.declared.watch.Note.{Note}
use Rattle.ob_store.specs.declared.watch.Note.TheVariants.{Read}
use Rattle.ob_store.specs.Disk.{Disk, Image}
use Rattle.ob_store.specs.Images.{Same, Passes}
use Rattle.ob_store.specs.Calls.{GoesOn, Keeps, Notes, NotesFirst}
use Rattle.ob_store.specs.Runs.{from_on}

-- Nothing but reads was asked of it: each cell is as before, and a crash leaves nothing that it might not have left.
pub record IsOnlyRead (old new : Disk) : Type 0 where
  pub goes : GoesOn old new
  pub keeps : Keeps old new
  pub passes : Passes Same old new
  pub out : new.out ≤ old.out

-- The second half has the first so many cells of the first, whatever a crash does.
pub record IsCopy (cells : ℕ) (first second : Disk) : Type 0 where
  pub reads : first.tells → second.tells → (k : ℕ) → k < cells → second.cells k ≡ first.cells k
  pub images : first.tells → second.tells → (c : Image) → second.may_leave c → (k : ℕ) → k < cells → c k ≡ first.cells k

-- a read of each of so many cells, in rising order
abbrev pub reads_from : (base count : ℕ) → List Note
reads_from base count = map (λ k. Read k) (from_on base count)

-- a write of each of the first so many cells
abbrev pub cell_writes : ℕ → List Event
cell_writes cells = map (λ k. Write k) (from_on 0 cells)

-- these events, or where it was refused the first of them
abbrev pub NotesAsFar : {T E : Type 0} → List Event → Option (List Event) → Option (List Event) → Result T E → Type 0
NotesAsFar events old new (Ok value) = Notes events old new
NotesAsFar events old new (Err e) = NotesFirst events old new

-- Where both told, the second has these cells of the first.
abbrev pub HasCells : ℕ → Disk → Disk → Disk → Type 0
HasCells cells first old new = first.tells → old.tells → (k : ℕ) → k < cells → new.cells k ≡ first.cells k
