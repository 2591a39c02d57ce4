use Rattle.ob_ring.specs.Loops.{Sought, roomy}
use Rattle.ob_ring.proofs.pass.find_room.Given as goal

abbrev pub invariant-loop-up : goal.invariant-loop-up
invariant-loop-up g l = Sought l.p (roomy l.p l.metas l.index) l.leaf l.up l.fn.steps l.steps
