use Rattle.std.proofs.Common.{◌≡◌, ℕ, ◌-◌, List, [], length, take, min, Option, nat_cmp, sym, ap, ap₂, ◌∙◌, subst}
use Rattle.std.specs.FinMap as finite
use Rattle.ob_order.specs.Order as rules
use Rattle.ob_order.specs.OrderModel.{OrderModel}
use Rattle.ob_queue.specs.Queues.{state_of}
use Rattle.ob_queue.proofs.Asked.{one_taken}
use Rattle.ob_queue.proofs.queue.Queue.take_batch.Goals as goal

pub returns-clause-state : goal.returns-clause-state
returns-clause-state c =
    let a = c.self.inside in
    let bases : finite.FinMap nat_cmp (Option (List ℕ)) = finite.from_entries a.bases.entries in
    let made : rules.OrderState → OrderModel = λ o. record { params = a.params; state = o } in
    let none : take a.flying a.asked ≡ [] = subst (λ (m : OrderModel). m.state.flying ≡ []) (sym c.self.view_is) c.requires.none_flying in
    let places : length c.args.out.now ≡ a.params.places = subst (λ (m : OrderModel). length c.args.out.now ≡ m.params.places) (sym c.self.view_is) c.requires.places in
    let few : c.min-self-inside.result ≡ min a.params.places (length a.asked) = c.min-self-inside.ensures ∙ ap₂ min (c.fill.auto.out ∙ places) c.len.ensures in
    subst (λ (m : OrderModel). made (state_of (a.left - 1) c.min-self-inside.result a.asked bases) ≡ record { params = m.params; state = rules.after_take m.params m.state }) c.self.view_is
    (ap made (one_taken a.left a.flying a.asked bases a.params c.min-self-inside.result c.self.invariant.0 none few))
