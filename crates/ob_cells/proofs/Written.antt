-- What a write of a run leaves, where it was refused.
use Rattle.std.proofs.Common.{◌≡◌, ℕ, ◌+◌, List, Result, Ok, Err, refl, arith, ◌∙◌}
use Rattle.std.specs.Result.{IsErr}
use Rattle.ob_seal.specs.Sealing.{Sealing}
use Rattle.ob_store.specs.Calls.{GoesOn, Keeps}
use Rattle.ob_store.specs.Disk.{Disk}
use Rattle.ob_store.specs.Images.{Elapses, SameOff, Shrinks}
use Rattle.ob_store.proofs.Moments.{passed_still}
use Rattle.ob_cells.specs.Runs.{IsFurther}
use Rattle.ob_cells.specs.Writes.{WritesWithin, WritesRun}

-- a sealer of the same keys and generation is the earlier one but for its next number
pub sealing_on : (old new : Sealing) (n : ℕ) → new.keys ≡ old.keys → new.generation ≡ old.generation → new.next ≡ old.next + n → new ≡ record old { next = old.next + n }
sealing_on old new n keys generation next = rw (← keys, ← generation, ← next) refl

-- a write that was refused
pub refused_run : {T E : Type 0} (base many : ℕ) (plain : ℕ → List ℕ) (sealer later : Sealing) (old new : Disk) (r : Result T E) → IsErr r → IsFurther many sealer later → WritesWithin base many old new
    → WritesRun base many plain sealer later old new r
refused_run base many plain sealer later old new (Ok v) is further within = absurd (grind (arith, is))
refused_run base many plain sealer later old new (Err e) is further within = record { written = λ tells. tt; whole = tt; seals = record { all = tt; some = further }; within = within }

-- a run that was written stays so through a call that keeps each cell and leaves no new image
pub run_synced : {E F : Type 0} (base many : ℕ) (plain : ℕ → List ℕ) (sealer later : Sealing) (old mid new : Disk) (r : Result (Unit {0}) F) → WritesRun {T = Unit {0}} {E = E} base many plain sealer later old mid (Ok tt)
    → (old.tells → mid.tells) → Keeps mid new → GoesOn mid new → Elapses mid new → Shrinks mid new → WritesRun base many plain sealer later old new r
run_synced {F = F} base many plain sealer later old mid new r run told keeps goes time shrinks = by_answer r
  where
    within : WritesWithin base many old new
    within = record {
      rest = λ tells k off. keeps.cells (told tells) k ∙ run.within.rest tells k off;
      passes = passed_still (SameOff base many) old mid new run.within.passes goes time shrinks keeps;
    }

    by_answer : (r : Result (Unit {0}) F) → WritesRun base many plain sealer later old new r
    by_answer (Ok v) = record {
      written = λ tells i lt. keeps.cells (told tells) (base + i) ∙ run.written tells i lt;
      whole = run.whole;
      seals = record { all = run.seals.all; some = run.seals.some };
      within = within;
    }
    by_answer (Err e) = record { written = λ tells. tt; whole = tt; seals = record { all = tt; some = run.seals.some }; within = within }
