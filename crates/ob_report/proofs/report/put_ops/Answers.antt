use Rattle.std.proofs.Common.{decimal}
use Rattle.std.proofs.lemmas.Result.{err_from_is_err_and}
use Rattle.ob_report.specs.Report.{op_line}
use Rattle.ob_report.proofs.Gathering.{more, stopped, finished}
use Rattle.ob_report.proofs.report.put_ops.Goals as goal

pub returns-in_err-put_op : goal.returns-in_err-put_op
returns-in_err-put_op g c =
    let p = err_from_is_err_and c.from_residual.result c.from_residual.ensures.1 in
    stopped (op_line decimal) c.args.ops.now c.loop-op.op-index c.op-item.result c.loop-op-test.true _ _ _ p.0 c.from_residual.result c.loop-op.invariant (rw c.op-item.is at c.in_err-put_op.ensures) p.1

pub loop-op-preserved : goal.loop-op-preserved
loop-op-preserved g c = more (op_line decimal) c.args.ops.now c.loop-op.op-index c.op-item.result c.loop-op-test.true _ _ _ tt c.loop-op.invariant (rw c.op-item.is at c.in_ok-put_op.ensures)

pub returns : goal.returns
returns g c = finished (op_line decimal) c.args.ops.now c.loop-op.op-index c.loop-op-test.false _ _ tt c.loop-op.invariant
