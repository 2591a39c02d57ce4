use Rattle.std.proofs.Common.{[]}
use Rattle.ob_order.proofs.Keeps.{kept_none}
use Rattle.ob_versions.proofs.Orders.{kept_ledger}
use Rattle.ob_versions.proofs.order.OrderEpochOrder.finish.Goals as goal

pub invariant_of-self : goal.invariant_of-self
invariant_of-self c = let a = c.self.inside in let k = kept_ledger a.queue.params [] _ a.ledger c.finish.ensures.none c.self.invariant.1 (kept_none a.queue.params) in (k.0, k.1)
