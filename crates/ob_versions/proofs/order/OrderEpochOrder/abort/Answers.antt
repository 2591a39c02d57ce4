use Rattle.ob_order.specs.Works as works
use Rattle.ob_order.proofs.Keeps.{kept_aborted}
use Rattle.ob_versions.proofs.Orders.{kept_ledger}
use Rattle.ob_versions.proofs.order.OrderEpochOrder.abort.Goals as goal

pub invariant_of-self : goal.invariant_of-self
invariant_of-self c =
    let a = c.self.inside in
    let k = kept_ledger a.queue.params (works.aborted a.ledger.works c.args.t) _ a.ledger c.abort.ensures c.self.invariant.1 (kept_aborted a.queue.params a.ledger.works c.args.t c.self.invariant.0) in
    (k.0, k.1)
