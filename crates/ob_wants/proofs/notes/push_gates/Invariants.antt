use Rattle.std.proofs.Common.{◌≡◌, ◌++◌, map}
use Rattle.ob_base.specs.Tree.{below}
use Rattle.ob_base.specs.Layout.{log_gate}
use Rattle.ob_schedule.specs.Schedule.{writes_of}
use Rattle.ob_schedule.specs.Sides.{side_number}
use Rattle.ob_schedule.specs.Wants.{kept}
use Rattle.ob_wants.proofs.notes.push_gates.Given as goal

abbrev pub invariant-loop-batch : goal.invariant-loop-batch
invariant-loop-batch l = l.wants ≡ l.initial.wants ++ kept (writes_of (map (log_gate l.p (side_number l.side)) (below l.batch)))
