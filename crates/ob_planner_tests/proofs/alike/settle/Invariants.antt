use Rattle.std.proofs.Common.{◌≡◌}
use Rattle.ob_planner_tests.specs.Planners.{IsPlannerReady}
use Rattle.ob_planner_tests.proofs.alike.settle.Given as goal

abbrev pub invariant-loop-i : goal.invariant-loop-i
invariant-loop-i l = IsPlannerReady l.p l.planner.ring l.planner.index l.planner.jobs × (l.planner.ring ≡ l.fn.planner.ring)
