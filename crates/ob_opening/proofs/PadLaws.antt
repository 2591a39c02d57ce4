-- A format and an opening as acts of the store's life over its pads.
use Rattle.std.proofs.Common.{◌≡◌, ◌⊎◌, inl, inr, ⊎_elim, ℕ, suc, List, Result, Ok, Err, sym, ap, ◌∙◌, subst}
use Rattle.std.specs.Prelude.{IfOk, MatchResult}
use mathlib.Core.Path.{fun_ext}
use Rattle.ob_base.specs.declared.params.Params.{Params}
use Rattle.ob_base.specs.declared.fault.Fault.{Fault}
use Rattle.ob_store.specs.Disk.{Disk, Image}
use Rattle.ob_store.specs.Images.{Same, Passes, LeavesOnly}
use Rattle.ob_store.specs.Calls.{GoesOn}
use Rattle.ob_store.specs.Lines.{Trace}
use Rattle.ob_store.proofs.Moments.{leaves_of, then_on, weakened}
use Rattle.ob_seal.specs.Sealing.{Sealing}
use Rattle.ob_seal.specs.declared.keys.Keys.{Keys}
use Rattle.ob_twin.specs.Clear.{AreInClear, AreInClearBut, InClearBy}
use Rattle.ob_twin.specs.Keyed.{tagging}
use Rattle.ob_twin.specs.Register.{OldOrNew}
use Rattle.ob_pads.specs.Lives.{IsAtGeneration, IsFormattedStore, LeavesUnopened, Opens}
use Rattle.ob_stand.specs.Stands.{Stands}
use Rattle.ob_opening.specs.Formats.{formatted_standing}
use Rattle.ob_opening.specs.OpeningRuns.{IsRingOpened, OpeningLeaves, OpensFrom}
use Rattle.ob_opening.specs.declared.opening.Opening.{Opening}
use Rattle.ob_opening.proofs.OpenedLaws.{generation_is}

module _ {S : Type 0} (disk : S → Disk) (keys : Keys) (p : Params) (old new : S) (only : (c : Image) → (disk old).left_since (disk old).moment c → (disk old).may_leave c) where
  -- what an act that gives out no sealer leaves, from a generation on
  abbrev Left : ℕ → Image → Type 0
  Left g c = (disk old).may_leave c ⊎ (IsAtGeneration keys g c ⊎ IsAtGeneration keys (suc g) c)

  -- reads
  reads_leave : (g : ℕ) (mid : Disk) → IsAtGeneration keys g (disk old).cells → Passes Same (disk old) mid → LeavesOnly (disk old) mid (Left g)
  reads_leave g mid stands passes = leaves_of Same (Left g) (Left g) (disk old) mid passes only (λ c left. inl left) (λ tells. inr (inl stands))
      (λ c d was same. subst (Left g) (sym same) was)
      (λ c was. was)

  -- a generation that was begun
  begun_leaves : (g : ℕ) → (disk old).tells → IsAtGeneration keys g (disk old).cells → OpensFrom disk keys p old new → LeavesOnly (disk old) (disk new) (Left g)
  begun_leaves g tells stands b =
      then_on (disk old) (disk b.synced) (disk new) (Left g) (reads_leave g (disk b.synced) stands b.until)
      (weakened (disk b.synced) (disk new) (OldOrNew (tagging keys) 1 (disk b.synced).cells g (suc g)) (Left g)
      (λ c either. ⊎_elim (λ kept. inr (inl kept.stands)) (λ kept. inr (inr kept.stands)) either)
      (b.register g tells stands))

  module _ (goes : GoesOn (disk old) (disk new)) (tells : (disk new).tells) where
    told : (disk old).tells
    told = goes.told tells

    opened_of : {L : Type 0} (most : ℕ) (before later : Trace) (o : Opening L) → IsRingOpened disk keys most p old new before later o → OpensFrom disk keys p old new → AreInClear (tagging keys) (disk old).cells (disk new).cells
        → Opens keys (disk old) (disk new) o.sealer
    opened_of most before later o is begins clear =
        let found_in = (is.told told).found_in in
        let here : (g : ℕ) → IsAtGeneration keys g (disk old).cells → (is.found).generation ≡ g =
        λ g stands. generation_is keys p (disk old).cells is.found g found_in stands in
        record {
          goes = goes;
          tells = tells;
          keys_are = ap (λ (s : Sealing). s.keys) (is.is).sealer;
          none_sealed = ap (λ (s : Sealing). s.next) (is.is).sealer;
          next = λ g stands. ap (λ (s : Sealing). s.generation) (is.is).sealer ∙ ap suc (here g stands);
          images = λ g stands c left. subst (λ (i : Image). IsAtGeneration keys (suc g) i) (sym (fun_ext (λ k. (is.told told).settled c left k)))
              (subst (λ n. IsAtGeneration keys (suc n) (disk new).cells) (here g stands) (is.stood told (subst (λ n. IsAtGeneration keys n (disk old).cells) (sym (here g stands)) stands)));
          crash = λ g stands. begun_leaves g told stands begins;
          clear = clear;
        }

    pub unopened_by : Passes Same (disk old) (disk new) ⊎ OpensFrom disk keys p old new → AreInClearBut (tagging keys) (disk new).seen (disk old).cells (disk new).cells → LeavesUnopened keys (disk old) (disk new)
    unopened_by leaves clear = record {
      goes = goes;
      tells = tells;
      crash = λ g stands. ⊎_elim (λ passes. reads_leave g (disk new) stands passes) (λ begun. begun_leaves g told stands begun) leaves;
      clear = clear;
    }

    pub act_of : {L : Type 0} (most : ℕ) (before later : Trace) (r : Result (Opening L) Fault) → IfOk r (IsRingOpened disk keys most p old new before later) → OpeningLeaves disk keys p old new r
        → InClearBy (tagging keys) (disk new).seen (disk old).cells (disk new).cells r → MatchResult r (λ o. Opens keys (disk old) (disk new) o.sealer) (λ refused. LeavesUnopened keys (disk old) (disk new))
    act_of most before later (Ok o) is begins clear = opened_of most before later o is begins clear
    act_of most before later (Err f) is leaves clear = unopened_by leaves clear

-- a store that was formatted stands at generation 1
pub formatted_store : {S : Type 0} (disk : S → Disk) (keys : Keys) (p : Params) (drawn : List ℕ) (new : S) → (disk new).tells → (disk new).leaves
    → ((c : Image) → (disk new).may_leave c → Stands keys p (formatted_standing p drawn) c) → IsFormattedStore disk keys new
formatted_store disk keys p drawn new tells leaves images = record { tells = tells; leaves = leaves; images = λ c left. (images c left).generation }
