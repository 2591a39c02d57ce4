use Rattle.std.proofs.Common.{◌≡◌}
use Rattle.ob_ring.specs.Ring.{IsListed}
use Rattle.ob_planner_tests.proofs.plans.is_ended.Given as goal

abbrev pub invariant-loop-i : goal.invariant-loop-i
invariant-loop-i l = (l.ring.p ≡ l.p) × IsListed l.ring

abbrev pub ghosts-refill : goal.ghosts-refill
ghosts-refill a = record { name = a.blank.name; parts = a.blank.parts }
