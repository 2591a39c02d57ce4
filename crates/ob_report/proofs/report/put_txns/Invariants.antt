use Rattle.std.proofs.Common.{take, decimal}
use Rattle.std.specs.Prelude.{flat_map}
use Rattle.ob_serial.specs.Views.{txn_of}
use Rattle.ob_report.specs.Report.{txn_text}
use Rattle.ob_report.specs.Gathered.{gathered}
use Rattle.ob_report.proofs.Gathering.{IsWhole}
use Rattle.ob_report.proofs.report.put_txns.Given as goal

abbrev pub invariant-loop-txn : goal.invariant-loop-txn
invariant-loop-txn g l = IsWhole (flat_map (λ t. txn_text decimal (txn_of t)) (take l.txn-index l.txns)) (gathered g.S.Sink l.fn.sink l.fn.page.items) (gathered g.S.Sink l.sink l.page.items)
