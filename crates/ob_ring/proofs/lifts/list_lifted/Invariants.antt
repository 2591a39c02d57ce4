use Rattle.ob_ring.proofs.Listing.{ListsLevels}
use Rattle.ob_ring.proofs.lifts.list_lifted.Given as goal

abbrev pub invariant-loop-i : goal.invariant-loop-i
invariant-loop-i l = ListsLevels l.p l.i l.fn.metas l.metas
