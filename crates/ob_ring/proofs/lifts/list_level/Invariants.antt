use Rattle.ob_ring.proofs.Listing.{Lists}
use Rattle.ob_ring.proofs.lifts.list_level.Given as goal

abbrev pub invariant-loop-i : goal.invariant-loop-i
invariant-loop-i l = Lists l.i l.first l.fn.metas l.metas
