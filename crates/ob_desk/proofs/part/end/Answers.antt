use Rattle.std.proofs.Common.{length, refl, sym, ap, ◌∙◌, subst}
use Rattle.ob_order.specs.OrderModel.{OrderModel}
use Rattle.ob_desk.specs.Parts.{HasGoing}
use Rattle.ob_desk.proofs.Rooms.{length_edited}
use Rattle.ob_desk.proofs.Going.{aborted_listed}
use Rattle.ob_desk.proofs.part.end.Goals as goal

pub returns-clause-room : goal.returns-clause-room
returns-clause-room c =
    let part = c.args.part.now in
    record {
      params = ap (λ (o : OrderModel). o.params) c.abort.ensures;
      told = refl;
      holders = ap length c.set_cause.ensures ∙ length_edited _ part.holders.items c.args.t;
      going = λ h. subst (λ (o : OrderModel). HasGoing o.state.works part.going.items) (sym c.abort.ensures) (aborted_listed part.order.state.works c.args.t part.going.items h);
    }
