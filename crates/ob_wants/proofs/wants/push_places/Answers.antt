use Rattle.std.proofs.Common.{arith, refl}
use Rattle.ob_wants.proofs.Lists.{places_more, places_end}
use Rattle.ob_wants.proofs.wants.push_places.Goals as goal

pub loop-place-init : goal.loop-place-init
loop-place-init c = refl

pub loop-place-preserved : goal.loop-place-preserved
loop-place-preserved c = places_more c.args.p.now c.args.batch c.loop-place.place _ _ _ (omega arith) c.loop-place.invariant c.in_ok-push.ensures

pub returns : goal.returns
returns c = places_end c.args.p.now c.args.batch c.loop-place.place _ _ (omega arith) c.loop-place.invariant
