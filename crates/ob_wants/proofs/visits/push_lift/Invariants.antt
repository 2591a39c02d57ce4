use Rattle.std.specs.Prelude.{◌≡◌, ◌++◌, map}
use Rattle.ob_wants.specs.Visits.{hole_of_visit}
use Rattle.ob_wants.proofs.Lists.{lifts}
use Rattle.ob_wants.proofs.visits.push_lift.Given as goal

abbrev pub invariant-loop-i : goal.invariant-loop-i
invariant-loop-i l = map hole_of_visit l.visits.items ≡ map hole_of_visit l.initial.visits.items ++ lifts l.bucket l.from l.i
