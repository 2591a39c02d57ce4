use Rattle.std.proofs.Common.{◌≡◌, replicate}
use Rattle.ob_base.specs.Planned.{most_jobs}
use Rattle.ob_base.specs.Tree.{buckets}
use Rattle.ob_planner_tests.proofs.plans.plan.Given as goal

abbrev pub invariant-loop-i : goal.invariant-loop-i
invariant-loop-i g l = (l.ring.p ≡ l.p) × (l.index ≡ replicate (buckets l.p) 0) × (l.jobs.room ≡ most_jobs l.p) × (l.jobs.place_room ≡ (l.p).places)
