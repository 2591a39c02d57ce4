use Rattle.std.proofs.Common.{take, decimal}
use Rattle.std.specs.Prelude.{flat_map}
use Rattle.ob_report.specs.Report.{op_line}
use Rattle.ob_report.specs.Gathered.{gathered}
use Rattle.ob_report.proofs.Gathering.{IsWhole}
use Rattle.ob_report.proofs.report.put_ops.Given as goal

abbrev pub invariant-loop-op : goal.invariant-loop-op
invariant-loop-op g l = IsWhole (flat_map (op_line decimal) (take l.op-index l.ops)) (gathered g.S.Sink l.fn.sink l.fn.page.items) (gathered g.S.Sink l.sink l.page.items)
