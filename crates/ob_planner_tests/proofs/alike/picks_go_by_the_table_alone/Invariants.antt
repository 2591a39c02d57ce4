use Rattle.ob_planner_tests.specs.Planners.{IsPlannerReady}
use Rattle.ob_planner_tests.proofs.alike.picks_go_by_the_table_alone.Given as goal

abbrev pub invariant-loop-epoch : goal.invariant-loop-epoch
invariant-loop-epoch g l = IsPlannerReady l.p l.one.ring l.one.index l.one.jobs × IsPlannerReady l.p l.other.ring l.other.index l.other.jobs
