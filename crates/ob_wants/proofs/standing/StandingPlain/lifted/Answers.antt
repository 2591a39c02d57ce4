use Rattle.std.specs.Prelude.{map, nat_le, false, ◌||◌, slice_index_or}
use Rattle.std.proofs.Common.{◌∙◌, ap, List, ℕ}
use Rattle.std.proofs.lemmas.Result.{IfOk-weaker}
use Rattle.ob_base.specs.Tree.{below, buckets}
use Rattle.ob_schedule.specs.Paths.{is_one_of}
use Rattle.ob_schedule.specs.Schedule.{counts_now}
use Rattle.ob_schedule.specs.Standing.{is_lifted, public_known}
use Rattle.ob_wants.specs.Shown.{standing_of}
use Rattle.ob_wants.proofs.Within.{same_below}
use Rattle.ob_wants.proofs.standing.StandingPlain.lifted.Goals as goal

pub returns : goal.returns
returns c =
    let p = c.args.p.now in
    let s = standing_of c.args.self.now in
    let leaves = c.args.leaves.now in
    IfOk-weaker c.evicted_or_read.result _ _ (λ lifted is. is
    ∙ (λ j. map (λ u. slice_index_or (c.deref-2.ensures.value j) u false || nat_le p.dummies (counts_now p (public_known p s leaves) u)) (below (buckets p)))
    ∙ same_below _ (is_lifted p s leaves) (buckets p)
    (λ u lt. λ j. (c.in_ok-evicted.ensures u lt ∙ ap (λ (us : List ℕ). is_one_of us u) (c.deref.ensures.value ∙ c.in_ok-paths.ensures)) j || nat_le p.dummies (counts_now p (public_known p s leaves) u))) c.evicted_or_read.ensures
