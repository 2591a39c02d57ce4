use Rattle.std.proofs.Common.{◌≡◌, [], sym, subst}
use Rattle.ob_order.specs.OrderModel.{OrderModel, IsKept}
use Rattle.ob_order.proofs.Keeps.{kept_none}
use Rattle.ob_versions.proofs.Orders.{kept_ledger}
use Rattle.ob_versions.proofs.order.OrderEpochOrder.clear.Goals as goal

pub invariant_of-self : goal.invariant_of-self
invariant_of-self c =
    let a = c.self.inside in
    let k = kept_ledger a.queue.params [] c.clear.new.self a.ledger c.clear.ensures c.self.invariant.1 (kept_none a.queue.params) in
    subst (λ (m : OrderModel). IsKept m.params c.clear.new.self.works × (c.clear.new.self.keys ≡ m.params.keys)) (sym c.clear-2.ensures) (k.0, k.1)
