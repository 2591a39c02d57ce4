use Rattle.std.proofs.Common.{◌==◌, sym, arith, eq-eqb, ne_eqb}
use Rattle.ob_desk.specs.Desk as desks
use Rattle.ob_order.proofs.Steps.{find_here, find_none_more}
use Rattle.ob_desk.proofs.roll.client_in.Goals as goal

pub returns-then-client-number : goal.returns-then-client-number
returns-then-client-number c = sym (find_here (λ (x : desks.Client). x.number == c.args.number) c.args.clients.now c.loop-client.client-index (desks.new_client 0) c.loop-client.invariant (omega arith) (eq-eqb _ _ c.if-client-number.true))

pub loop-client-preserved : goal.loop-client-preserved
loop-client-preserved c = find_none_more (λ (x : desks.Client). x.number == c.args.number) c.args.clients.now c.loop-client.client-index (desks.new_client 0) c.loop-client.invariant (omega arith) (ne_eqb _ _ c.if-client-number.false)
