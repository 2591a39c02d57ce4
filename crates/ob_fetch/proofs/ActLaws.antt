-- A fetch as an act of its store's life.
use Rattle.std.proofs.Common.{inl, inr, ℕ, ◌+◌, List, Option, Result, Ok, Err, OnOk, refl, arith}
use Rattle.ob_base.specs.declared.params.Params.{Params}
use Rattle.ob_base.specs.declared.fault.Fault.{Fault}
use Rattle.ob_base.specs.Layout.{log_cell, record_cells}
use Rattle.ob_cells.specs.Runs.{IsFurther}
use Rattle.ob_cells.specs.Writes.{WritesWithin}
use Rattle.ob_pads.specs.Lives.{Answers, IsAtGeneration}
use Rattle.ob_pads.specs.Seals.{CellsAreSealed, SealsBy, answer_of_fetch}
use Rattle.ob_pads.proofs.Sealing.{kept_clear}
use Rattle.ob_seal.specs.Sealing.{Sealing}
use Rattle.ob_store.specs.Calls.{GoesOn}
use Rattle.ob_store.specs.Disk.{Disk, Image}
use Rattle.ob_store.specs.Images.{SameOff}
use Rattle.ob_store.proofs.Moments.{leaves_of}
use Rattle.ob_twin.specs.Keyed.{tagging}
use Rattle.ob_twin.proofs.Frames.{register_moved}

-- its writes lie behind the register of generations
module _ (p : Params) (area batch : ℕ) (old new : Disk) (only : (c : Image) → old.left_since old.moment c → old.may_leave c) (was now : Sealing) (goes : GoesOn old new) (tells : new.tells) (further : IsFurther (record_cells p) was now)
    (within : WritesWithin (log_cell p area batch 0) (record_cells p + 1) old new) where
  abbrev at : Image → Type 0
  at = IsAtGeneration was.keys was.generation

  moved : (c d : Image) → SameOff (log_cell p area batch 0) (record_cells p + 1) c d → at d → at c
  moved c d same stands = register_moved (tagging was.keys) 1 was.generation c d (λ k from to. same k (inl (omega (arith, to)))) stands

  fetch_seals : (out : List (Option (List ℕ))) (r : Result (Unit {0}) Fault) → OnOk r (CellsAreSealed was now old.cells new.cells) → SealsBy (answer_of_fetch out r) was now old.cells new.cells
  fetch_seals out (Ok done) sealed = sealed
  fetch_seals out (Err f) sealed = tt

  pub fetch_acts : (out : List (Option (List ℕ))) (r : Result (Unit {0}) Fault) → OnOk r (CellsAreSealed was now old.cells new.cells) → Answers old new was now (answer_of_fetch out r)
  fetch_acts out r sealed = record {
    goes = goes;
    tells = tells;
    further = record { keys = further.keys; generation = further.generation; on = further.on };
    seals = fetch_seals out r sealed;
    clear = kept_clear (answer_of_fetch out r) was.keys new.seen old.cells new.cells (λ cell low. (within.passes.told tells).1 cell (inl (omega (arith, low))));
    images = λ all. leaves_of (SameOff (log_cell p area batch 0) (record_cells p + 1)) at at old new within.passes only (λ c left. all c (inl left)) (λ told. all old.cells (inr (told, refl))) (λ c d stands step. moved c d step stands) (λ c stands. stands);
  }
