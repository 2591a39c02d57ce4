use Rattle.std.specs.Prelude.{◌≡◌, ◌||◌, false, map, nat_le, slice_index_or}
use Rattle.ob_base.specs.Tree.{below}
use Rattle.ob_schedule.specs.Schedule.{counts_now}
use Rattle.ob_schedule.specs.Standing.{public_known}
use Rattle.ob_wants.specs.Shown.{standing_of}
use Rattle.ob_wants.proofs.standing.StandingPlain.evicted_or_read.Given as goal

abbrev pub invariant-loop-bucket : goal.invariant-loop-bucket
invariant-loop-bucket l = l.lifted.items
    ≡ map (λ u. slice_index_or l.evicted u false || nat_le l.p.dummies (counts_now l.p (public_known l.p (standing_of l.self) l.leaves) u)) (below l.bucket)
