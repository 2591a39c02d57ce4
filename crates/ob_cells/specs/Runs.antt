-- Runs of sealed cells: seals of one generation, in a row.
use Rattle.std.specs.Prelude.{◌≡◌, ◌<◌, ◌≤◌, ℕ, ◌+◌, ◌^◌, List}
use Rattle.ob_seal.specs.declared.keys.Keys.{Keys}
use Rattle.ob_seal.specs.Pieces.{onward}
use Rattle.ob_seal.specs.Seals.{sealed}
use Rattle.ob_seal.specs.Sealing.{Sealing}
use Rattle.ob_store.specs.Disk.{Image}
use Rattle.ob_cells.specs.declared.run.Identity.{Identity}

-- the bytes of the cells from a cell on
abbrev pub run_at : ℕ → Image → ℕ → List ℕ
run_at base image i = image (base + i)

-- so many cells from a cell on have these plain bytes, and seals in a row from this one on
abbrev pub AreSealed : Keys → ℕ → ℕ → ℕ → ℕ → (ℕ → List ℕ) → (ℕ → List ℕ) → Type 0
AreSealed keys base many generation first plain cells =
    (i : ℕ) → i < many → cells i ≡ sealed keys (base + i) generation (onward first i) (plain i)

-- so they have, from a seal on that a cell can spell
pub record IsRun (keys : Keys) (base many : ℕ) (first : Identity) (plain cells : ℕ → List ℕ) : Type 0 where
  pub generation_fits : first.generation < 2 ^ 64
  pub number_fits : first.number < 2 ^ 64
  pub sealed_so : AreSealed keys base many first.generation first.number plain cells

-- at most so many seals were made
pub record IsFurther (most : ℕ) (old new : Sealing) : Type 0 where
  pub keys : new.keys ≡ old.keys
  pub generation : new.generation ≡ old.generation
  pub on : old.next ≤ new.next
  pub within : new.next ≤ old.next + most
