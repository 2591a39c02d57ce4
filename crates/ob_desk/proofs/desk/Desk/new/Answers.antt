use Rattle.std.proofs.Common.{ℕ, ◌≤◌, ◌^◌, [], sym, ap, ◌∙◌, subst}
use Rattle.std.proofs.lemmas.Result.{IfOk-from_err}
use Rattle.ob_order.specs.Order.{OrderState}
use Rattle.ob_order.specs.OrderModel.{OrderModel}
use Rattle.ob_desk.specs.Parts.{HasGoing}
use Rattle.ob_desk.proofs.Going.{none_listed}
use Rattle.ob_desk.proofs.desk.Desk.new.Goals as goal

pub invariant_of-result : goal.invariant_of-result
invariant_of-result c =
    let first = c.new_part.ensures in
    let second = c.new_part-2.ensures in
    record {
      alike = ap (λ (o : OrderModel). o.params) second.order ∙ (c.in_ok-other.ensures.params ∙ sym (ap (λ (o : OrderModel). o.params) first.order ∙ c.in_ok-order.ensures.params));
      running_room = first.room;
      other_room = second.room;
      going = subst (HasGoing _) (sym first.none_going)
          (subst (λ (o : OrderModel). HasGoing o.state.works []) (sym first.order)
          (subst (λ (s : OrderState). HasGoing s.works []) (sym c.in_ok-order.ensures.state) none_listed));
      low = λ is none. subst (λ (e : ℕ). e ≤ 2 ^ 62) (sym first.epoch) c.requires.low_epoch;
    }

pub returns-in_err-clients : goal.returns-in_err-clients
returns-in_err-clients c = IfOk-from_err c.from_residual.result _ c.from_residual.ensures.0

pub returns-in_err-order : goal.returns-in_err-order
returns-in_err-order c = IfOk-from_err c.from_residual-in_err-order.result _ c.from_residual-in_err-order.ensures.0

pub returns-in_err-other : goal.returns-in_err-other
returns-in_err-other c = IfOk-from_err c.from_residual-in_err-other.result _ c.from_residual-in_err-other.ensures.0
