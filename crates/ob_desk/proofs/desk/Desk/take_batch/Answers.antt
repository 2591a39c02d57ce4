use Rattle.std.proofs.Common.{sym, ap, ◌∙◌, subst}
use Rattle.ob_order.specs.OrderModel.{OrderModel}
use Rattle.ob_desk.specs.Desk as desks
use Rattle.ob_desk.specs.Desk.{DeskState}
use Rattle.ob_desk.specs.Parts.{HasGoing}
use Rattle.ob_desk.proofs.Going.{kept_order}
use Rattle.ob_desk.proofs.desk.Desk.take_batch.Goals as goal

pub take_batch-requires-clause-some_left : goal.take_batch-requires-clause-some_left
take_batch-requires-clause-some_left c = (subst (λ (d : DeskState). desks.MayCall d desks.TakeBatch) (sym c.self.view_is) c.requires.may).1

pub take_batch-requires-clause-none_flying : goal.take_batch-requires-clause-none_flying
take_batch-requires-clause-none_flying c = (subst (λ (d : DeskState). desks.MayCall d desks.TakeBatch) (sym c.self.view_is) c.requires.may).2

pub take_batch-requires-clause-places : goal.take_batch-requires-clause-places
take_batch-requires-clause-places c = c.requires.places ∙ ap (λ (d : DeskState). d.setup.params.places) (sym c.self.view_is)

pub invariant_of-self : goal.invariant_of-self
invariant_of-self c =
    let a = c.self.inside in
    kept_order a.running a.other a.is_closed a.stopped c.take_batch.new.self a.running.uses c.self.invariant (ap (λ (o : OrderModel). o.params) c.take_batch.ensures.state)
    (subst (λ (o : OrderModel). HasGoing o.state.works a.running.going.items) (sym c.take_batch.ensures.state) c.self.invariant.going)
