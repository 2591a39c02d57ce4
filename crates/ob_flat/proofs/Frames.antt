-- What the end of an epoch may change.
use Rattle.std.proofs.Common.{◌≡◌, inl, inr, ℕ, ◌+◌, ◌∙◌, List, length, Option, Result, Ok, Err, refl, subst, arith}
use Rattle.std.specs.Prelude.{IfErr}
use Rattle.ob_base.specs.declared.fault.Failed.{Failed}
use Rattle.ob_seal.specs.Sealing.{Sealing}
use Rattle.ob_store.specs.Disk.{Disk, Image}
use Rattle.ob_store.specs.Images.{SameOff, Passes, Shrinks, Elapses}
use Rattle.ob_store.specs.Calls.{Serves, IsFailed, Keeps}
use Rattle.ob_store.proofs.Moments.{passed_none, passed_then, passed_still, passes_so}
use Rattle.ob_store.proofs.Serving.{serves_then, if_ok}
use Rattle.ob_flat.specs.Writes.{RowsWritten}
use Rattle.ob_twin.specs.Register.{SameOutside}
use Rattle.ob_twin.specs.declared.set_err.SetErr.{SetErr}
use Rattle.ob_twin.specs.declared.set_err.SetErr.TheVariants.{Before, Unsure}
use Rattle.ob_flat.specs.Places.{area_of}
use Rattle.ob_flat.specs.Ends.{IfUnsure}
use Rattle.ob_flat.specs.Calls.{SameOffEpoch}

module _ (n epoch : ℕ) where
  pub same_epoch : (c : Image) → SameOffEpoch n epoch c c
  same_epoch c k off = refl

  pub epoch_again : (c d e : Image) → SameOffEpoch n epoch c d → SameOffEpoch n epoch d e → SameOffEpoch n epoch c e
  epoch_again c d e one two k off = one k off ∙ two k off

  -- the rows alone
  pub rows_off : (c d : Image) → SameOff (area_of n epoch) n c d → SameOffEpoch n epoch c d
  rows_off c d same k (inl low) = same k (inl (omega arith))
  rows_off c d same k (inr off) = same k off.1

  -- the register alone
  pub register_off : (c d : Image) → SameOutside 5 c d → SameOffEpoch n epoch c d
  register_off c d same k (inl low) = same k (inl low)
  register_off c d same k (inr off) = let high = off.0 in same k (inr (omega arith))

  pub rows_pass : (old new : Disk) → Passes (SameOff (area_of n epoch) n) old new → Passes (SameOffEpoch n epoch) old new
  rows_pass old new passes = passes_so (SameOff (area_of n epoch) n) (SameOffEpoch n epoch) old new rows_off passes

  pub both_pass : (old mid new : Disk) → Passes (SameOff (area_of n epoch) n) old mid → Passes (SameOutside 5) mid new → Passes (SameOffEpoch n epoch) old new
  both_pass old mid new first second =
      passed_then (SameOffEpoch n epoch) old mid new epoch_again (rows_pass old mid first) (passes_so (SameOutside 5) (SameOffEpoch n epoch) mid new register_off second)

  -- no call
  pub none_pass : (d : Disk) → Passes (SameOffEpoch n epoch) d d
  none_pass d = passed_none d (SameOffEpoch n epoch) same_epoch

-- what holds whatever a set answers holds where it is unsure
pub if_unsure : (A : Type 0) (r : Result (Unit {0}) SetErr) → A → IfErr r (IfUnsure A)
if_unsure A (Ok done) is = tt
if_unsure A (Err (Before fault)) is = tt
if_unsure A (Err (Unsure fault)) is = is

-- ---- rows that were written

module _ {base : ℕ} {values : List (Option (List ℕ))} {sealer later : Sealing} where
  -- in their area
  pub rows_at : {place : ℕ} {old new : Disk} {r : Result (Unit {0}) Failed} → base ≡ place → RowsWritten base values sealer later old new r → RowsWritten place values sealer later old new r
  rows_at {old = old} {new = new} {r = r} is rows = subst (λ b. RowsWritten b values sealer later old new r) is rows

  -- and so behind a sync, whatever it answered
  pub rows_synced : {place : ℕ} {old mid new : Disk} {r : Result (Unit {0}) Failed} → base ≡ place → RowsWritten base values sealer later old mid (Ok tt)
      → Serves IsFailed mid new r → Keeps mid new → Shrinks mid new → Elapses mid new → RowsWritten place values sealer later old new r
  rows_synced {old = old} {mid = mid} {new = new} {r = r} is rows serves keeps shrinks time = rows_at is (record {
    serves = serves_then IsFailed old mid new r rows.serves.goes rows.serves.out rows.serves.tells serves;
    written = λ tells. if_ok _ r (λ i lt. keeps.cells (rows.serves.tells tells) (base + i) ∙ rows.written tells i lt);
    short = if_ok _ r rows.short;
    seals = record { all = if_ok _ r rows.seals.all; some = rows.seals.some };
    within = record {
      rest = λ tells k off. keeps.cells (rows.serves.tells tells) k ∙ rows.within.rest tells k off;
      passes = passed_still (SameOff base (length values)) old mid new rows.within.passes serves.goes time shrinks keeps;
    };
  })
