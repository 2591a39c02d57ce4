-- A whole epoch, step by step.
use Rattle.std.specs.Prelude.{ℕ, List, [], ◌∷◌}
use Rattle.std.proofs.Common.{sym, ◌∙◌}
use Rattle.ob_base.specs.declared.params.Params.{Params}
use Rattle.ob_ring.specs.FlatTable.{FlatTable, Batch, FinalLifts, Writes, Refill, after}
use Rattle.ob_ring.specs.Laws.{IsOrderly}
use Rattle.ob_ring.specs.Settling.{Rows, rows_after}
use Rattle.ob_ring.specs.Writing.{leaf_writes}
use Rattle.ob_ring.proofs.TableLaws.{steps_keep_order}
use Rattle.ob_stand.specs.Goes.{OnlyLeaves}
use Rattle.ob_stand.specs.Takes.{AreKeysLow}
use Rattle.ob_stand.specs.ValueLaws.{Settles}
use Rattle.ob_stand.specs.Values.{Values}
use Rattle.ob_stand.specs.Carries.{Carries}
use Rattle.ob_stand.specs.Epochs.{Read, after_batches, rows_of_batches, AreAllRead, AreFaultless, before_refill, rows_before_refill, EpochsFollow, BucketsGo}
use Rattle.ob_stand.proofs.KeyLaws.{picked_are_taken}
use Rattle.ob_stand.proofs.Steps.{batch_carries, lifts_carry}
use Rattle.ob_stand.proofs.Written.{writes_carry}
use Rattle.ob_stand.proofs.Refilling.{refill_carries}
use Rattle.ob_stand.proofs.Going.{steps_only_take}

pub record AreDone (p : Params) (t : FlatTable) (rows : Rows) (slots : ℕ → ℕ → List ℕ) (m : Values) (bs : List Read) : Type 0 where
  pub faultless : AreFaultless bs
  pub orderly : IsOrderly p (after_batches p t bs)
  pub carries : Carries p (after_batches p t bs) (rows_of_batches rows bs) slots m

pub batches_done : (p : Params) (t : FlatTable) (rows : Rows) (slots : ℕ → ℕ → List ℕ) (m : Values) (bs : List Read) → IsOrderly p t → Carries p t rows slots m → AreAllRead p slots t bs → AreDone p t rows slots m bs
batches_done p t rows slots m [] o c read = record { faultless = tt; orderly = o; carries = c }
batches_done p t rows slots m (b ∷ bs) o c read =
    let one : Settles p (after p t (Batch b.0)) rows slots m b.1 = batch_carries p t b.0 rows slots m b.1 o c read.0 in
    let rest : AreDone p (after p t (Batch b.0)) (rows_after rows b.1) slots m bs = batches_done p (after p t (Batch b.0)) (rows_after rows b.1) slots m bs (steps_keep_order p t (Batch b.0) o) one.carries read.1 in
    record { faultless = (one.fault, rest.faultless); orderly = rest.orderly; carries = rest.carries }

pub epochs_follow : EpochsFollow
epochs_follow p t rows rows' slots slots' m bs js ws o c e =
    let a : AreDone p t rows slots m bs = batches_done p t rows slots m bs o c e.batches in
    let t1 : FlatTable = after_batches p t bs in
    let t2 : FlatTable = after p t1 FinalLifts in
    let t3 : FlatTable = before_refill p t bs ws in
    let o2 : IsOrderly p t2 = steps_keep_order p t1 FinalLifts a.orderly in
    let o3 : IsOrderly p t3 = steps_keep_order p t2 (Writes (leaf_writes ws)) o2 in
    let l : Settles p t2 (rows_of_batches rows bs) slots m js = lifts_carry p t1 (rows_of_batches rows bs) slots m js a.orderly a.carries e.lifts in
    let w = writes_carry p t2 ws (rows_after (rows_of_batches rows bs) js) slots m e.fit l.carries in
    record {
      faultless = a.faultless;
      fault = l.fault;
      orderly = steps_keep_order p t3 Refill o3;
      carries = refill_carries p t3 (rows_before_refill rows bs js ws) rows' slots slots' _ o3 w e.refilled;
    }

-- ---- buckets that aren't filled anew

record AreLeft (p : Params) (t t' : FlatTable) (u : ℕ) : Type 0 where
  leaves : OnlyLeaves t t' u
  orderly : IsOrderly p t'
  low : AreKeysLow p t'

batches_leave : (p : Params) (t : FlatTable) (bs : List Read) (u : ℕ) → IsOrderly p t → AreKeysLow p t → AreLeft p t (after_batches p t bs) u
batches_leave p t [] u o low = record { leaves = record { keys = λ k j e. e; used = λ j e. e }; orderly = o; low = low }
batches_leave p t (b ∷ bs) u o low =
    let t1 : FlatTable = after p t (Batch b.0) in
    let rest : AreLeft p t1 (after_batches p t1 bs) u = batches_leave p t1 bs u (steps_keep_order p t (Batch b.0) o) (λ k e. low k (sym (picked_are_taken.batch_keys p t b.0 k) ∙ e)) in
    record { leaves = steps_only_take.further t t1 (after_batches p t1 bs) u (steps_only_take.batch p t b.0 u o low) rest.leaves; orderly = rest.orderly; low = rest.low }

pub buckets_go : BucketsGo
buckets_go p t m bs ws u o low down =
    let t1 : FlatTable = after_batches p t bs in
    let t2 : FlatTable = after p t1 FinalLifts in
    let t3 : FlatTable = before_refill p t bs ws in
    let t4 : FlatTable = after p t3 Refill in
    let a : AreLeft p t t1 u = batches_leave p t bs u o low in
    let o2 : IsOrderly p t2 = steps_keep_order p t1 FinalLifts a.orderly in
    let o3 : IsOrderly p t3 = steps_keep_order p t2 (Writes (leaf_writes ws)) o2 in
    let last : OnlyLeaves t3 t4 u = steps_only_take.refill p t3 u o3 down in
    record {
      leaves = steps_only_take.further t t1 t4 u a.leaves
          (steps_only_take.further t1 t2 t4 u (steps_only_take.lifts p t1 u a.orderly a.low)
          (steps_only_take.further t2 t3 t4 u (steps_only_take.writes p t2 (leaf_writes ws) u) last));
      values = λ k j e. steps_only_take.unwritten p t2 ws m k u j (last.keys k j e);
    }
