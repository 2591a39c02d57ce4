use Rattle.std.proofs.Common.{◌≡◌, ℕ, ◌<◌, List, length, drop, Option, nat_cmp, sym, ap, ◌∙◌, subst}
use Rattle.std.specs.FinMap as finite
use Rattle.ob_order.specs.Order as rules
use Rattle.ob_order.specs.OrderModel.{OrderModel}
use Rattle.ob_queue.specs.Queues.{state_of, without_last}
use Rattle.ob_queue.proofs.Asked.{one_less}
use Rattle.ob_queue.proofs.queue.Queue.take_back.Goals as goal

pub returns : goal.returns
returns c =
    let a = c.self.inside in
    let bases : finite.FinMap nat_cmp (Option (List ℕ)) = finite.from_entries a.bases.entries in
    let made : rules.OrderState → OrderModel = λ o. record { params = a.params; state = o } in
    let some : 0 < length (drop a.flying a.asked) = subst (λ (m : OrderModel). 0 < length m.state.queue) (sym c.self.view_is) c.requires in
    subst (λ (m : OrderModel). made (state_of a.left a.flying c.drop_last.new.self bases) ≡ record { params = m.params; state = without_last m.state }) c.self.view_is
    (ap made (ap (λ ks. state_of a.left a.flying ks bases) c.drop_last.ensures ∙ one_less a.left a.flying a.asked bases some))
