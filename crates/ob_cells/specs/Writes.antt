-- What a write of a run of sealed cells leaves.
use Rattle.std.specs.Prelude.{◌≡◌, ◌<◌, ℕ, ◌+◌, List, length, Result, OnOk}
use Rattle.ob_seal.specs.Sealing.{Sealing}
use Rattle.ob_store.specs.Disk.{Disk}
use Rattle.ob_store.specs.Images.{SameOff, Passes}
use Rattle.ob_cells.specs.Runs.{AreSealed, IsFurther, run_at}

-- So many seals were made, or some of the first where the call was refused.
pub record Seals {T E : Type 0} (many : ℕ) (old new : Sealing) (result : Result T E) : Type 0 where
  pub all : OnOk result (new ≡ record old { next = old.next + many })
  pub some : IsFurther many old new

-- No other cell than so many from a cell on was written: none differs, nor does a crash at any moment of it change another.
pub record WritesWithin (base many : ℕ) (old new : Disk) : Type 0 where
  pub rest : old.tells → SameOff base many new.cells old.cells
  pub passes : Passes (SameOff base many) old new

-- So many cells from a cell on were written, with these plain bytes under the next seals; or some of the first, and the call was
-- refused.
pub record WritesRun {T E : Type 0} (base many : ℕ) (plain : ℕ → List ℕ) (sealer later : Sealing) (old new : Disk) (result : Result T E) : Type 0 where
  pub written : old.tells → OnOk result (AreSealed sealer.keys base many sealer.generation sealer.next plain (run_at base new.cells))
  pub whole : OnOk result ((i : ℕ) → i < many → length (plain i) ≡ 96)
  pub seals : Seals many sealer later result
  pub within : WritesWithin base many old new
