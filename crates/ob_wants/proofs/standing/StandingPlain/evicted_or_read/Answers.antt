use Rattle.std.specs.Prelude.{◌||◌, false, nat_le, slice_index_or}
use Rattle.std.proofs.Common.{[], ◌≡◌, ◌∙◌, ℕ, map, ap, arith}
use Rattle.ob_base.specs.Tree.{below, buckets}
use Rattle.ob_schedule.specs.Schedule.{counts_now}
use Rattle.ob_schedule.specs.Standing.{public_known}
use Rattle.ob_wants.specs.Shown.{standing_of}
use Rattle.ob_wants.proofs.Lists.{one_behind}
use Rattle.ob_wants.proofs.standing.StandingPlain.evicted_or_read.Goals as goal

pub loop-bucket-init : goal.loop-bucket-init
loop-bucket-init c = c.new-lifted.ensures.items

pub returns : goal.returns
returns c =
    let p = c.args.p.now in
    let all : c.loop-bucket.bucket ≡ buckets p = omega (arith, c.loop-bucket-test.false, c.loop-bucket.auto.bucket-end, c.buckets-bucket-end.ensures.buckets) in
    c.loop-bucket.invariant
    ∙ ap (λ (n : ℕ). map (λ u. slice_index_or c.args.evicted.now u false || nat_le p.dummies (counts_now p (public_known p (standing_of c.args.self.now) c.args.leaves.now) u)) (below n)) all

pub loop-bucket-preserved : goal.loop-bucket-preserved
loop-bucket-preserved c =
    let p = c.args.p.now in
    one_behind (λ u. slice_index_or c.args.evicted.now u false || nat_le p.dummies (counts_now p (public_known p (standing_of c.args.self.now) c.args.leaves.now) u))
    [] _ _ _ c.loop-bucket.bucket c.loop-bucket.invariant c.in_ok-push.ensures.items c.is_lifted.ensures
