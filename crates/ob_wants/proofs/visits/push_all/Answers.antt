use Rattle.std.specs.Prelude.{map}
use Rattle.std.proofs.Common.{ℕ, List, ◌++◌, ◌∙◌, ap, sym, get_or, append_assoc, arith}
use Rattle.ob_schedule.specs.Holes.{Hole}
use Rattle.ob_schedule.specs.Schedule.{counts_now}
use Rattle.ob_schedule.specs.Standing.{public_known}
use Rattle.ob_wants.specs.Occasions.{holes_on}
use Rattle.ob_wants.specs.Shown.{standing_of}
use Rattle.ob_wants.specs.Visits.{hole_of_visit}
use Rattle.ob_wants.proofs.Lists.{reads_more}
use Rattle.ob_wants.proofs.visits.push_all.Goals as goal

pub loop-bucket-preserved : goal.loop-bucket-preserved
loop-bucket-preserved c =
    let p = c.args.p.now in
    let i = c.loop-bucket.bucket-index in
    let one : ℕ = get_or c.args.buckets.now i 0 in
    let count = counts_now p (public_known p (standing_of c.args.standing.now) c.args.leaves.now) in
    let done = map hole_of_visit c.args.visits.now.items in
    c.in_ok-push_reads.ensures ∙ (λ j. c.loop-bucket.invariant j ++ holes_on p c.args.occasion one (c.count.ensures j))
    ∙ append_assoc done _ _ ∙ ap (λ (hs : List Hole). done ++ hs) (sym (reads_more p c.args.occasion count c.args.buckets.now i (omega arith)))
