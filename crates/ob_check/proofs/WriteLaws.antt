-- What a write of a checkpoint's cells says, where their first cell, their number and their bytes are known.
use Rattle.std.specs.Prelude.{◌≡◌, ℕ, List}
use Rattle.std.proofs.Common.{ap, ◌∙◌, subst}
use Rattle.ob_base.specs.declared.params.Params.{Params}
use Rattle.ob_base.specs.Layout.{checkpoint_cells}
use Rattle.ob_seal.specs.declared.keys.Keys.{Keys}
use Rattle.ob_seal.specs.Pieces.{piece}
use Rattle.ob_store.specs.declared.watch.Note.{Note}
use Rattle.ob_store.specs.Disk.{Disk, Image}
use Rattle.ob_store.specs.Runs.{write_notes}
use Rattle.ob_cells.specs.Runs.{AreSealed, run_at}
use Rattle.ob_cells.specs.Writes.{WritesWithin}
use Rattle.ob_tables.specs.Content.{Content}
use Rattle.ob_tables.specs.Spelling.{checkpoint_bytes}
use Rattle.ob_check.specs.Written.{HoldsCheckpointFrom, area_of}

pub held : (keys : Keys) (p : Params) (epoch : ℕ) (c : Content) (generation first : ℕ) (image : Image) (base many : ℕ) (bytes : List ℕ)
    → base ≡ area_of p epoch → many ≡ checkpoint_cells p → bytes ≡ checkpoint_bytes p epoch c
    → AreSealed keys base many generation first (λ i. piece i bytes) (run_at base image) → HoldsCheckpointFrom keys p epoch c generation first image
held keys p epoch c generation first image base many bytes at count spelled sealed =
    subst (λ (b : ℕ). AreSealed keys b (checkpoint_cells p) generation first (λ i. piece i (checkpoint_bytes p epoch c)) (run_at b image)) at
    (subst (λ (n : ℕ). AreSealed keys base n generation first (λ i. piece i (checkpoint_bytes p epoch c)) (run_at base image)) count
    (subst (λ (xs : List ℕ). AreSealed keys base many generation first (λ i. piece i xs) (run_at base image)) spelled sealed))

pub within : (base from many cells : ℕ) (old new : Disk) → base ≡ from → many ≡ cells → WritesWithin base many old new → WritesWithin from cells old new
within base from many cells old new at count w = subst (λ (b : ℕ). WritesWithin b cells old new) at (subst (λ (n : ℕ). WritesWithin base n old new) count w)

pub notes_same : (base from many cells : ℕ) → base ≡ from → many ≡ cells → write_notes base many ≡ write_notes from cells
notes_same base from many cells at count = ap (λ b. write_notes b many) at ∙ ap (λ n. write_notes from n) count
