use Rattle.std.specs.Prelude.{cond, false, nat_le, slice_index, slice_index_or}
use Rattle.std.proofs.Common.{◌≡◌, sym, append-nil, arith}
use Rattle.std.proofs.lemmas.Result.{IfOk-from_err}
use Rattle.ob_base.specs.Tree.{buckets}
use Rattle.ob_schedule.specs.Schedule.{counts_now}
use Rattle.ob_schedule.specs.Sides.{other}
use Rattle.ob_schedule.specs.Standing.{public_known}
use Rattle.ob_wants.specs.Shown.{standing_of}
use Rattle.ob_wants.proofs.Lists.{one_behind}
use Rattle.ob_wants.proofs.standing.StandingPlain.push_after.Goals as goal

pub loop-bucket-init : goal.loop-bucket-init
loop-bucket-init c = record {
  homes = sym (append-nil c.args.homes.now.items);
  counts = sym (append-nil c.args.counts.now.items);
  used = sym (append-nil c.args.used.now.items);
}

pub returns-in_err-push : goal.returns-in_err-push
returns-in_err-push c = IfOk-from_err c.from_residual.result _ c.from_residual.ensures.0

pub returns-in_err-push-2 : goal.returns-in_err-push-2
returns-in_err-push-2 c = IfOk-from_err c.from_residual-in_err-push-2.result _ c.from_residual-in_err-push-2.ensures.0

pub returns-in_err-push-3 : goal.returns-in_err-push-3
returns-in_err-push-3 c = IfOk-from_err c.from_residual-in_err-push-3.result _ c.from_residual-in_err-push-3.ensures.0

pub returns : goal.returns
returns c =
    let all : c.loop-bucket.bucket ≡ buckets c.args.p.now = omega (arith, c.loop-bucket-test.false, c.loop-bucket.auto.bucket-end, c.buckets-bucket-end.ensures.buckets) in
    (rw all at c.loop-bucket.invariant.homes, rw all at c.loop-bucket.invariant.counts, rw all at c.loop-bucket.invariant.used)

pub loop-bucket-preserved : goal.loop-bucket-preserved
loop-bucket-preserved c =
    let p = c.args.p.now in
    let s = standing_of c.args.self.now in
    let now = counts_now p (public_known p s c.args.leaves.now) in
    let marks = c.args.lifted.now in
    let u = c.loop-bucket.bucket in
    record {
      homes = one_behind (λ v. cond (slice_index_or marks v false) (other (s.homes v)) (s.homes v)) _ _ _ _ u c.loop-bucket.invariant.homes c.in_ok-push.ensures.items c.home_after.ensures;
      counts = one_behind (λ v. cond (slice_index_or marks v false) 0 (cond (nat_le p.dummies (now v)) 0 (now v))) _ _ _ _ u c.loop-bucket.invariant.counts c.in_ok-push-2.ensures.items c.count_left.ensures;
      used = one_behind (λ v. cond (slice_index_or marks v false) 0 (slice_index c.args.self.now.used.items v)) _ _ _ _ u c.loop-bucket.invariant.used c.in_ok-push-3.ensures.items c.used_left.ensures;
    }
