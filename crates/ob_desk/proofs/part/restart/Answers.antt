use Rattle.std.proofs.Common.{List, ap, ap₂, ◌∙◌}
use Rattle.ob_base.specs.declared.params.Params.{Params}
use Rattle.ob_order.specs.Order.{OrderState, new_order}
use Rattle.ob_order.specs.OrderModel.{OrderModel}
use Rattle.ob_shares.specs.Shares.{Uses}
use Rattle.ob_shares.specs.Seen.{uses_of}
use Rattle.ob_desk.specs.Desk.{Part, Holder, new_part}
use Rattle.ob_desk.proofs.part.restart.Goals as goal

pub returns-clause-part : goal.returns-clause-part
returns-clause-part c =
    ap₂ (λ (o : OrderState) (hs : List Holder). let p : Part = record { epoch = c.args.epoch; order = o; holders = hs; uses = uses_of c.clear_uses.new.uses } in p)
    (ap (λ (o : OrderModel). o.state) c.clear.ensures ∙ ap (λ (p : Params). new_order p.batches) c.params.ensures) c.clear-2.ensures.items
    ∙ ap (λ (us : Uses). let p : Part = record (new_part c.args.epoch c.args.part.now.order.params.batches) { uses = us } in p) c.clear_uses.ensures

pub returns-clause-params : goal.returns-clause-params
returns-clause-params c = ap (λ (o : OrderModel). o.params) c.clear.ensures
