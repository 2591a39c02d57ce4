use Rattle.std.proofs.Common.{map}
use Rattle.ob_order.specs.Works as works
use Rattle.ob_order.proofs.Keeps.{kept_stopped}
use Rattle.ob_versions.proofs.Orders.{kept_ledger}
use Rattle.ob_versions.proofs.order.OrderEpochOrder.stop.Goals as goal

pub invariant_of-self : goal.invariant_of-self
invariant_of-self c =
    let a = c.self.inside in
    let k = kept_ledger a.queue.params (map works.stop_work a.ledger.works) _ a.ledger c.stop.ensures c.self.invariant.1 (kept_stopped a.queue.params a.ledger.works) in
    (k.0, k.1)
