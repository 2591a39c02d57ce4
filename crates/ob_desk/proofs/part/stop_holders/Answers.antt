use Rattle.std.proofs.Common.{set, ap, ◌∙◌, arith}
use Rattle.ob_desk.specs.Desk as desks
use Rattle.ob_order.proofs.Mapped.{mapped_more}
use Rattle.ob_desk.proofs.part.stop_holders.Goals as goal

pub loop-i-preserved : goal.loop-i-preserved
loop-i-preserved c =
    ap (λ (x : desks.Holder). set c.loop-i.holders.items c.loop-i.i x) c.stop_holder.ensures
    ∙ mapped_more (desks.stop_holder c.args.fault) c.args.holders.now.items c.loop-i.holders.items c.loop-i.i c.index_mut.result.now (omega arith) c.loop-i.invariant c.index_mut.ensures.value
