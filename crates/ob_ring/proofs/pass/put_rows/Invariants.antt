use Rattle.ob_ring.specs.Loops.{PutsTo}
use Rattle.ob_ring.proofs.pass.put_rows.Given as goal

abbrev pub invariant-loop-i : goal.invariant-loop-i
invariant-loop-i g l = PutsTo l.p l.book (l.stash).rows l.fn.metas l.metas l.index l.i l.fn.steps l.steps l.put
