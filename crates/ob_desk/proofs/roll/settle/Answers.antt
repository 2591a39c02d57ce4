use Rattle.std.proofs.Common.{set, ap, ◌∙◌, arith}
use Rattle.ob_desk.specs.Desk as desks
use Rattle.ob_desk.specs.Parts.{part_of}
use Rattle.ob_order.proofs.Mapped.{mapped_more}
use Rattle.ob_desk.proofs.roll.settle.Goals as goal

pub loop-i-preserved : goal.loop-i-preserved
loop-i-preserved c =
    ap (λ (x : desks.Client). set c.loop-i.clients.items c.loop-i.i x) c.settle_one.ensures
    ∙ mapped_more (desks.settle_client (part_of c.args.part.now) c.args.otherwise) c.args.clients.now.items c.loop-i.clients.items c.loop-i.i c.index_mut.result.now (omega arith) c.loop-i.invariant c.index_mut.ensures.value
