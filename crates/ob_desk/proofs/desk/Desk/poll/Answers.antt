use Rattle.std.proofs.Common.{◌≡◌, true, is_some, refl, sym, ap, ◌∙◌, subst}
use Rattle.std.proofs.lemmas.Bool.{false≢true}
use Rattle.ob_order.specs.OrderModel.{OrderModel}
use Rattle.ob_order.proofs.Steps.{live_above}
use Rattle.ob_desk.specs.Desk.{DeskState, IsLive, outcome_at, waiting_at}
use Rattle.ob_desk.specs.Parts.{HasGoing}
use Rattle.ob_desk.proofs.Allowed.{was_aborted, polled_live}
use Rattle.ob_desk.proofs.Going.{kept_order, again_listed}
use Rattle.ob_desk.proofs.desk.Desk.poll.Goals as goal

pub invariant_of-self : goal.invariant_of-self
invariant_of-self c =
    let a = c.self.inside in
    kept_order a.running a.other a.is_closed a.stopped c.again.new.self a.running.uses c.self.invariant (ap (λ (o : OrderModel). o.params) c.again.ensures.state)
    (subst (λ (o : OrderModel). HasGoing o.state.works a.running.going.items) (sym c.again.ensures.state) (again_listed a.running.order.state _ _ _ a.running.going.items c.self.invariant.going))

pub returns-in-Some : goal.returns-in-Some
returns-in-Some c = record {
  step = record {
    earlier = was_aborted (outcome_at c.args.self.now c.args.txn.now) c.in-Some.why (sym c.why_aborted.ensures ∙ c.in-Some.is);
    same = refl;
  };
}

pub waiting-requires : goal.waiting-requires
waiting-requires c =
    let live = subst (λ (d : DeskState). IsLive d c.args.txn.now) (sym c.self.view_is) (polled_live c.args.self.now c.args.txn.now c.requires.1 (sym c.why_aborted.ensures ∙ c.in_default.is)).0 in
    live_above c.self.inside.running.order.state.works c.args.txn.now.ticket live.goes

pub returns-in_default-waiting : goal.returns-in_default-waiting
returns-in_default-waiting c =
    let waits = subst (λ (d : DeskState). is_some (waiting_at d.running c.args.txn.now.ticket) ≡ true) (sym c.self.view_is) (polled_live c.args.self.now c.args.txn.now c.requires.1 (sym c.why_aborted.ensures ∙ c.in_default.is)).1 in
    absurd (false≢true (ap is_some (sym c.in_default-waiting.is ∙ c.waiting.ensures) ∙ waits))

pub again-requires-clause-live : goal.again-requires-clause-live
again-requires-clause-live c = (subst (λ (d : DeskState). IsLive d c.args.txn.now) (sym c.self.view_is) (polled_live c.args.self.now c.args.txn.now c.requires.1 (sym c.why_aborted.ensures ∙ c.in_default.is)).0).goes

pub again-requires-clause-waits : goal.again-requires-clause-waits
again-requires-clause-waits c = sym c.waiting.ensures ∙ c.in-Some-waiting.is
