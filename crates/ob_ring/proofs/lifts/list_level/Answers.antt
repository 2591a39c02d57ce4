use Rattle.std.proofs.Common.{◌∙◌, sym}
use Rattle.ob_ring.proofs.Listing.{lists_more, lists_same}
use Rattle.ob_ring.proofs.lifts.list_level.Goals as goal
use Rattle.ob_ring.proofs.lifts.list_level.Goals.{then-is_lifted, else-is_lifted}

pub loop-i-preserved : goal.loop-i-preserved
loop-i-preserved c = elim c.if-is_lifted.branch [
  | then-is_lifted w ↦ lists_more c.loop-i.i c.args.first c.args.metas.now c.loop-i.metas c.if-is_lifted.metas c.loop-i.invariant (sym c.is_lifted.ensures ∙ w.if-is_lifted.true) (w.metas-is ∙ w.push_order.ensures)
  | else-is_lifted w ↦ lists_same c.loop-i.i c.args.first c.args.metas.now c.loop-i.metas c.if-is_lifted.metas c.loop-i.invariant (sym c.is_lifted.ensures ∙ w.if-is_lifted.false) w.metas-is
]
