use Rattle.std.proofs.Common.{length, refl, sym, ap, ◌∙◌, subst}
use Rattle.std.proofs.lemmas.List.{length-map}
use Rattle.ob_order.specs.OrderModel.{OrderModel}
use Rattle.ob_desk.specs.Parts.{HasGoing}
use Rattle.ob_desk.proofs.Going.{stopped_listed}
use Rattle.ob_desk.proofs.part.stop.Goals as goal

pub returns-clause-room : goal.returns-clause-room
returns-clause-room c =
    let part = c.args.part.now in
    record {
      params = ap (λ (o : OrderModel). o.params) c.stop.ensures;
      told = refl;
      holders = ap length c.stop_holders.ensures ∙ length-map part.holders.items _;
      going = λ h. subst (λ (o : OrderModel). HasGoing o.state.works part.going.items) (sym c.stop.ensures) (stopped_listed part.order.state.works part.going.items h);
    }
