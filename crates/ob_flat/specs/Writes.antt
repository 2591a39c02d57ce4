-- What a write of rows leaves.
use Rattle.std.specs.Prelude.{ℕ, List, length, Option, Result, OnOk}
use Rattle.ob_base.specs.declared.fault.Failed.{Failed}
use Rattle.ob_seal.specs.Sealing.{Sealing}
use Rattle.ob_store.specs.Disk.{Disk}
use Rattle.ob_store.specs.Calls.{Serves, IsFailed, Holds}
use Rattle.ob_cells.specs.Writes.{Seals, WritesWithin}
use Rattle.ob_flat.specs.Rows.{row_cells, AreShort}

-- The rows of these values were written from a cell on, under the next seals; or some of the first, and the store failed.
pub record RowsWritten (base : ℕ) (values : List (Option (List ℕ))) (sealer later : Sealing) (old new : Disk) (result : Result (Unit {0}) Failed) : Type 0 where
  pub serves : Serves IsFailed old new result
  pub written : old.tells → OnOk result (Holds base (row_cells sealer.keys base sealer.generation sealer.next values) new.cells)
  pub short : OnOk result (AreShort values)
  pub seals : Seals (length values) sealer later result
  pub within : WritesWithin base (length values) old new
