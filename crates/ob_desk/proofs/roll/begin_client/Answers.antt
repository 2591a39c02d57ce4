use Rattle.std.proofs.Common.{◌==◌, if◌then◌else◌, set, ap, ◌∙◌, arith}
use Rattle.ob_desk.specs.Desk as desks
use Rattle.ob_order.proofs.Mapped.{mapped_more}
use Rattle.ob_desk.proofs.roll.begin_client.Goals as goal

pub loop-i-preserved : goal.loop-i-preserved
loop-i-preserved c =
    ap (λ (x : desks.Client). set c.loop-i.clients.items c.loop-i.i x) c.begin_one.ensures
    ∙ mapped_more (λ (x : desks.Client). if x.number == c.args.txn.now.client then desks.begin_client c.args.txn.now x else x) c.args.clients.now.items c.loop-i.clients.items c.loop-i.i c.index_mut.result.now (omega arith) c.loop-i.invariant c.index_mut.ensures.value
