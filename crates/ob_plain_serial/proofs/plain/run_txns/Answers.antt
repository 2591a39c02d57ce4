use Rattle.std.proofs.Common.{◌∷◌, ◌+◌, [], ℕ, List, sym, subst, take, drop, map, filter}
use Rattle.std.specs.Ordering.{nat_cmp}
use Rattle.ob_serial.specs.Serial.{TxnRecord, OneByOne, is_committed}
use Rattle.ob_serial.specs.Views.{txn_of}
use Rattle.ob_serial.proofs.Runs.{txns_more, txns_stop, next_item, all_items}
use Rattle.ob_plain_serial.proofs.plain.run_txns.Goals as goal

pub loop-txn-preserved : goal.loop-txn-preserved
loop-txn-preserved c =
    let did = rw c.if-not-branch.false at c.in_ok-run_txn.ensures in
    let more = next_item (λ t. txn_of t) c.args.txns.now c.loop-txn.txn-index c.txn-item.result c.loop-txn-test.true c.txn-item.is in
    rw more (txns_more nat_cmp _ _ _ (map (λ t. txn_of t) (take c.loop-txn.txn-index c.args.txns.now)) (txn_of c.txn-item.result ∷ []) c.loop-txn.invariant did)

pub returns-then-not-branch : goal.returns-then-not-branch
returns-then-not-branch c =
    let txns = c.args.txns.now in
    let i = c.loop-txn.txn-index in
    let stuck = rw c.if-not-branch.true at c.in_ok-run_txn.ensures in
    let more = next_item (λ t. txn_of t) txns i c.txn-item.result c.loop-txn-test.true c.txn-item.is in
    λ last run. txns_stop nat_cmp _ _ (map (λ t. txn_of t) (take i txns)) (txn_of c.txn-item.result ∷ []) (map (λ t. txn_of t) (drop (i + 1) txns)) c.loop-txn.invariant stuck last
    (subst (λ (ts : List (TxnRecord ℕ)). OneByOne nat_cmp c.args.values.now (filter (λ t. is_committed t) ts) last) (sym (all_items (λ t. txn_of t) txns i _ more)) run)
