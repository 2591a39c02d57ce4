use Rattle.std.proofs.Common.{◌≡◌, ℕ, ◌-◌, List, ◌++◌, map, take, replicate, length, Option, Some, None, nat_cmp, sym, ap, ◌∙◌, subst}
use Rattle.std.specs.FinMap as finite
use Rattle.ob_order.specs.Order as rules
use Rattle.ob_order.specs.OrderModel.{OrderModel}
use Rattle.ob_queue.specs.Queues.{state_of}
use Rattle.ob_queue.proofs.Asked.{one_delivered}
use Rattle.ob_queue.proofs.queue.Queue.deliver.Goals as goal

pub returns : goal.returns
returns c =
    let a = c.self.inside in
    let keys = c.args.keys.now in
    let values = c.args.values.now in
    let bases : finite.FinMap nat_cmp (Option (List ℕ)) = finite.from_entries a.bases.entries in
    let made : rules.OrderState → OrderModel = λ o. record { params = a.params; state = o } in
    let flying = take a.flying a.asked in
    let batch : keys ≡ map Some flying ++ replicate (a.params.places - length flying) None = subst (λ (m : OrderModel). keys ≡ rules.batch_in_flight m.params m.state) (sym c.self.view_is) c.requires.batch in
    let kept = c.drop_front.new.self in
    let given : finite.FinMap nat_cmp (Option (List ℕ)) = finite.from_entries c.put_all.new.bases.entries in
    let is : given ≡ rules.delivered bases (map Some flying) values = c.put_all.ensures.given ∙ ap (λ (ks : List ℕ). rules.delivered bases (map Some (take a.flying ks)) values) c.as_slice.ensures in
    subst (λ (m : OrderModel). made (state_of a.left 0 kept given) ≡ record { params = m.params; state = rules.after_deliver m.state keys values }) c.self.view_is
    (ap made (one_delivered a.left a.flying a.asked bases (a.params.places - length flying) keys values kept given batch c.drop_front.ensures is))
