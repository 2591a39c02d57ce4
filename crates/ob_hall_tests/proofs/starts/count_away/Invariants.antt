use Rattle.std.proofs.Common.{◌≤◌}
use Rattle.ob_hall_tests.proofs.starts.count_away.Given as goal

abbrev pub invariant-loop-one : goal.invariant-loop-one
invariant-loop-one l = l.away ≤ l.one-index
