use Rattle.std.specs.Prelude.{◌≡◌, ◌++◌, map, take}
use Rattle.std.specs.List.{flat_map}
use Rattle.ob_schedule.specs.Schedule.{counts_now}
use Rattle.ob_schedule.specs.Standing.{public_known}
use Rattle.ob_wants.specs.Occasions.{holes_on}
use Rattle.ob_wants.specs.Shown.{standing_of}
use Rattle.ob_wants.specs.Visits.{hole_of_visit}
use Rattle.ob_wants.proofs.visits.push_all.Given as goal

abbrev pub invariant-loop-bucket : goal.invariant-loop-bucket
invariant-loop-bucket l = map hole_of_visit l.visits.items ≡ map hole_of_visit l.initial.visits.items ++ flat_map (λ u. holes_on l.p l.occasion u (counts_now l.p (public_known l.p (standing_of l.standing) l.leaves) u)) (take l.bucket-index l.buckets)
