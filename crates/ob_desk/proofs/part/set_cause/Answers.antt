use Rattle.std.proofs.Common.{sym, arith}
use Rattle.ob_desk.specs.Desk as desks
use Rattle.ob_order.proofs.Tidies.{edit_set_before}
use Rattle.ob_desk.proofs.part.set_cause.Goals as goal

pub returns : goal.returns
returns c = sym (edit_set_before (desks.note_cause c.args.why) c.args.holders.now.items c.args.t c.index_mut.result.now (omega arith) (omega arith) c.index_mut.ensures.value)
