use Rattle.std.proofs.Common.{◌==◌, if◌then◌else◌, set, ap, ◌∙◌, arith}
use Rattle.ob_desk.specs.Desk as desks
use Rattle.ob_order.proofs.Mapped.{mapped_more}
use Rattle.ob_desk.proofs.roll.sign_off.Goals as goal

pub loop-i-preserved : goal.loop-i-preserved
loop-i-preserved c =
    ap (λ (x : desks.Client). set c.loop-i.clients.items c.loop-i.i x) c.sign_off_one.ensures
    ∙ mapped_more (λ (x : desks.Client). if x.number == c.args.number then desks.sign_off_client x else x) c.args.clients.now.items c.loop-i.clients.items c.loop-i.i c.index_mut.result.now (omega arith) c.loop-i.invariant c.index_mut.ensures.value
