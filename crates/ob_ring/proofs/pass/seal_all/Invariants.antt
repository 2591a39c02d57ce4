use Rattle.ob_ring.specs.Loops.{SealsTo}
use Rattle.ob_ring.proofs.pass.seal_all.Given as goal

abbrev pub invariant-loop-i : goal.invariant-loop-i
invariant-loop-i l = SealsTo l.p l.fn.metas l.metas l.fn.index l.index l.words l.first l.i
