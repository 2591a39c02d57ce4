-- Openings as acts.
use Rattle.std.proofs.Common.{◌⊎◌, inl, inr, ⊎_elim, ℕ, suc, Result, Ok, Err, OnOk, OnErr, ap, sym, subst}
use Rattle.std.specs.Prelude.{IfOk}
use mathlib.Core.Path.{fun_ext}
use Rattle.ob_base.specs.declared.params.Params.{Params}
use Rattle.ob_base.specs.declared.fault.Fault.{Fault}
use Rattle.ob_store.specs.Disk.{Disk, Image}
use Rattle.ob_store.specs.Images.{Same, IsSynced, Passes, LeavesOnly}
use Rattle.ob_store.specs.Calls.{GoesOn}
use Rattle.ob_store.proofs.Moments.{leaves_of, then_on, weakened}
use Rattle.ob_seal.specs.declared.keys.Keys.{Keys}
use Rattle.ob_twin.specs.Clear.{InClearBy}
use Rattle.ob_twin.specs.Keyed.{tagging}
use Rattle.ob_twin.specs.Register.{OldOrNew}
use Rattle.ob_start.specs.Beginning.{BeginsFrom}
use Rattle.ob_serial.specs.Vaults.{Standing}
use Rattle.ob_pads.specs.Lives.{IsAtGeneration, Opens, LeavesUnopened, IsFormattedStore}
use Rattle.ob_flat.specs.Standing.{StandsFlat}
use Rattle.ob_flat.specs.declared.opening.Opening.{Opening}
use Rattle.ob_flat.specs.Openings.{HasSealedNothing, OpeningBegins}

module _ {S : Type 0} (disk : S → Disk) (keys : Keys) (old new : S) (only : (c : Image) → (disk old).left_since (disk old).moment c → (disk old).may_leave c) where
  -- what an act that gives out no sealer leaves, from a generation on
  abbrev Left : ℕ → Image → Type 0
  Left g c = (disk old).may_leave c ⊎ (IsAtGeneration keys g c ⊎ IsAtGeneration keys (suc g) c)

  -- reads
  reads_leave : (g : ℕ) (mid : Disk) → IsAtGeneration keys g (disk old).cells → Passes Same (disk old) mid → LeavesOnly (disk old) mid (Left g)
  reads_leave g mid stands passes = leaves_of Same (Left g) (Left g) (disk old) mid passes only (λ c left. inl left) (λ tells. inr (inl stands))
      (λ c d was same. subst (Left g) (sym same) was)
      (λ c was. was)

  -- a generation that was begun
  begun_leaves : (g : ℕ) → (disk old).tells → IsAtGeneration keys g (disk old).cells → BeginsFrom disk keys g old new → LeavesOnly (disk old) (disk new) (Left g)
  begun_leaves g tells stands b =
      then_on (disk old) (disk b.synced) (disk new) (Left g) (reads_leave g (disk b.synced) stands b.until)
      (weakened (disk b.synced) (disk new) (OldOrNew (tagging keys) 1 (disk b.synced).cells g (suc g)) (Left g)
      (λ c either. ⊎_elim (λ kept. inr (inl kept.stands)) (λ kept. inr (inr kept.stands)) either)
      (b.since tells stands))

  pub reads_unopened : GoesOn (disk old) (disk new) → (disk new).tells → Passes Same (disk old) (disk new) → LeavesUnopened keys (disk old) (disk new)
  reads_unopened goes tells passes = record { goes = goes; tells = tells; crash = λ g stands. reads_leave g (disk new) stands passes; clear = λ cell low. inl (inl (ap (λ (i : Image). i cell) (passes.told tells).1)) }

  module _ (goes : GoesOn (disk old) (disk new)) (tells : (disk new).tells) where
    told : (disk old).tells
    told = goes.told tells

    pub opens_of : (r : Result Opening Fault) → IfOk r (λ o. HasSealedNothing keys o.sealer) → IfOk r (λ o. (disk old).tells → IsSynced (disk new)) → OpeningBegins disk keys old new r
        → InClearBy (tagging keys) (disk new).seen (disk old).cells (disk new).cells r → IfOk r (λ o. Opens keys (disk old) (disk new) o.sealer)
    opens_of (Ok o) fresh durable begins clear = record {
      goes = goes;
      tells = tells;
      keys_are = fresh.keys_are;
      none_sealed = fresh.none_sealed;
      next = λ g stands. (begins g told stands).next;
      images = λ g stands c left. subst (λ (i : Image). IsAtGeneration keys (suc g) i) (sym (fun_ext (λ k. durable told c left k))) (begins g told stands).stands;
      crash = λ g stands. begun_leaves g told stands (begins g told stands).leaves;
      clear = clear;
    }
    opens_of (Err f) fresh durable begins clear = tt

    pub unopened_of : (r : Result Opening Fault) → OpeningBegins disk keys old new r → InClearBy (tagging keys) (disk new).seen (disk old).cells (disk new).cells r → OnErr r (LeavesUnopened keys (disk old) (disk new))
    unopened_of (Ok o) begins clear = tt
    unopened_of (Err f) begins clear = record {
      goes = goes;
      tells = tells;
      crash = λ g stands. ⊎_elim (λ passes. reads_leave g (disk new) stands passes) (λ begun. begun_leaves g told stands (begun g told stands)) begins;
      clear = clear;
    }

-- a store that was formatted
module _ {S : Type 0} (disk : S → Disk) (keys : Keys) (p : Params) (old new : S) (goes : GoesOn (disk old) (disk new)) (tells : (disk old).tells) (leaves : (disk old).leaves) (at : Standing) where
  pub formatted_of : (r : Result (Unit {0}) Fault) → OnOk r ((disk old).tells → (disk new).tells) → OnOk r ((c : Image) → (disk new).may_leave c → StandsFlat keys p 1 c at) → OnOk r (IsFormattedStore disk keys new)
  formatted_of (Ok done) on images = record { tells = on tells; leaves = goes.leaves.0 leaves; images = λ c left. (images c left).begun }
  formatted_of (Err f) on images = tt
