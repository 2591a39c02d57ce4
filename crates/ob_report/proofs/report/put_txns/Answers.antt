use Rattle.std.proofs.Common.{decimal}
use Rattle.std.proofs.lemmas.Result.{err_from_is_err_and}
use Rattle.ob_serial.specs.Views.{txn_of}
use Rattle.ob_report.specs.Report.{txn_text}
use Rattle.ob_report.proofs.Gathering.{more, stopped, finished, by_name}
use Rattle.ob_report.proofs.report.put_txns.Goals as goal

pub returns-in_err-put_txn : goal.returns-in_err-put_txn
returns-in_err-put_txn g c =
    let p = err_from_is_err_and c.from_residual.result c.from_residual.ensures.1 in
    rw (by_name (txn_text decimal) (λ t. txn_of t) c.args.txns.now)
    (stopped (λ t. txn_text decimal (txn_of t)) c.args.txns.now c.loop-txn.txn-index c.txn-item.result c.loop-txn-test.true _ _ _ p.0 c.from_residual.result c.loop-txn.invariant (rw c.txn-item.is at c.in_err-put_txn.ensures) p.1)

pub loop-txn-preserved : goal.loop-txn-preserved
loop-txn-preserved g c = more (λ t. txn_text decimal (txn_of t)) c.args.txns.now c.loop-txn.txn-index c.txn-item.result c.loop-txn-test.true _ _ _ tt c.loop-txn.invariant (rw c.txn-item.is at c.in_ok-put_txn.ensures)

pub returns : goal.returns
returns g c = rw (by_name (txn_text decimal) (λ t. txn_of t) c.args.txns.now) (finished (λ t. txn_text decimal (txn_of t)) c.args.txns.now c.loop-txn.txn-index c.loop-txn-test.false _ _ tt c.loop-txn.invariant)
