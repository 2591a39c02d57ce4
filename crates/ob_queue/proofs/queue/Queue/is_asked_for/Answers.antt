use Rattle.std.proofs.Common.{◌≡◌, ◌∙◌, subst}
use Rattle.std.specs.FinMap as finite
use Rattle.ob_order.specs.Order as rules
use Rattle.ob_order.specs.OrderModel.{OrderModel}
use Rattle.ob_queue.proofs.Asked.{is_among}
use Rattle.ob_queue.proofs.queue.Queue.is_asked_for.Goals as goal

pub returns : goal.returns
returns c =
    let a = c.self.inside in
    subst (λ (m : OrderModel). c.contains.result ≡ rules.is_asked_for m.state c.args.key) c.self.view_is
    (c.contains.ensures ∙ is_among a.left a.flying a.asked (finite.from_entries a.bases.entries) c.args.key)
