use Rattle.std.proofs.Common.{refl}
use Rattle.ob_wants.proofs.Lists.{lift_next}
use Rattle.ob_wants.proofs.visits.push_lift.Goals as goal

pub loop-i-preserved : goal.loop-i-preserved
loop-i-preserved c = lift_next _ _ _ _ c.args.bucket c.args.from c.loop-i.i c.in_ok-push_back.ensures.items c.loop-i.invariant refl
