use Rattle.std.proofs.Common.{◌≡◌, List, Some, refl, sym, ap, ◌∙◌, subst, inl, inr}
use Rattle.std.proofs.lemmas.Result.{IfOk-from_err}
use Rattle.ob_order.specs.Order.{write_reply}
use Rattle.ob_order.specs.OrderModel.{OrderModel}
use Rattle.ob_shares.specs.declared.named.Named.{Named}
use Rattle.ob_shares.specs.Shares.{Uses, past, with_name}
use Rattle.ob_shares.specs.Seen.{uses_of}
use Rattle.ob_shares.specs.declared.uses.Uses.{Uses as CodeUses}
use Rattle.ob_desk.specs.Desk.{outcome_at, why_refused}
use Rattle.ob_desk.specs.Parts.{HasGoing}
use Rattle.ob_desk.proofs.Allowed.{was_aborted, free_live}
use Rattle.ob_desk.proofs.Going.{kept_order, write_listed}
use Rattle.ob_desk.proofs.Steps.{write_step, refused_step}
use Rattle.ob_desk.proofs.desk.Desk.write.Goals as goal
use Rattle.ob_desk.proofs.desk.Desk.write.Goals.{in-Conflict, in-Full}

pub invariant_of-self-in-Yes : goal.invariant_of-self-in-Yes
invariant_of-self-in-Yes c =
    let a = c.self.inside in
    kept_order a.running a.other a.is_closed a.stopped c.write.new.self _ c.self.invariant (ap (λ (o : OrderModel). o.params) c.in_ok-wrote.ensures.ok)
    (subst (λ (o : OrderModel). HasGoing o.state.works a.running.going.items) (sym c.in_ok-wrote.ensures.ok) (write_listed a.running.order.state _ _ _ _ a.running.going.items c.self.invariant.going))

pub returns-in-Some-clause-step : goal.returns-in-Some-clause-step
returns-in-Some-clause-step c = inl (record {
  earlier = was_aborted (outcome_at c.args.self.now c.args.txn.now) c.in-Some.why (sym c.why_aborted.ensures ∙ c.in-Some.is);
  same = refl;
})

pub returns-in_err-wrote-clause-step : goal.returns-in_err-wrote-clause-step
returns-in_err-wrote-clause-step c = IfOk-from_err c.from_residual-in_err-wrote.result _ c.from_residual-in_err-wrote.ensures.0

pub returns-in_err-make_room-clause-step : goal.returns-in_err-make_room-clause-step
returns-in_err-make_room-clause-step c = IfOk-from_err c.from_residual.result _ c.from_residual.ensures.0

pub returns-in-Yes-clause-step : goal.returns-in-Yes-clause-step
returns-in-Yes-clause-step c =
    let a = c.self.inside in
    let live = free_live c.args.self.now c.args.txn.now c.requires.1 (sym c.why_aborted.ensures ∙ c.in_default.is) in
    let kept : CodeUses = record a.running.uses { writes = c.add_name.new.names } in
    let names = ap (λ (ns : List Named). let us : Uses = record (uses_of a.running.uses) { writes = ns } in us)
    (c.add_name.ensures ∙ ap (λ (ns : List Named). with_name a.shares.writes ns c.args.txn.now.client c.args.key) c.make_room.ensures.items) in
    let within = ap (λ (ns : List Named). past a.shares.writes ns c.args.txn.now.client c.args.key) (sym c.deref.ensures.value) ∙ sym c.past.ensures ∙ c.in_default-past.is in
    write_step a.shares a.clients.items a.stopped a.running a.other a.is_closed c.write.new.self kept c.args.txn.now c.args.key c.args.value _ c.args.self.now c.self.view_is live within names
    c.in_ok-wrote.ensures.reply c.in_ok-wrote.ensures.ok c.in-Yes.is

pub returns-clause-step : goal.returns-clause-step
returns-clause-step c =
    let a = c.self.inside in
    let reply = c.in_ok-wrote.ensures.reply in
    let live = free_live c.args.self.now c.args.txn.now c.requires.1 (sym c.why_aborted.ensures ∙ c.in_default.is) in
    let kept : CodeUses = record a.running.uses { writes = c.add_name.new.names } in
    let names = ap (λ (ns : List Named). let us : Uses = record (uses_of a.running.uses) { writes = ns } in us)
    (c.add_name.ensures ∙ ap (λ (ns : List Named). with_name a.shares.writes ns c.args.txn.now.client c.args.key) c.make_room.ensures.items) in
    let within = ap (λ (ns : List Named). past a.shares.writes ns c.args.txn.now.client c.args.key) (sym c.deref.ensures.value) ∙ sym c.past.ensures ∙ c.in_default-past.is in
    let cause : why_refused (write_reply a.running.order.params a.running.order.state c.args.txn.now.ticket c.args.key) ≡ Some c.match-wrote.why = elim c.match-wrote.branch [
      | in-Conflict w ↦ ap why_refused (sym reply ∙ w.in-Conflict.is) ∙ ap (λ y. Some y) (sym w.why-is)
      | in-Full w ↦ ap why_refused (sym reply ∙ w.in-Full.is) ∙ ap (λ y. Some y) (sym w.why-is)
    ] in
    inr (inl (refused_step a.shares a.clients.items a.stopped a.running a.other a.is_closed c.write.new.self kept c.args.txn.now c.args.key c.args.value _ c.args.self.now _ c.end-2.new.self c.self.view_is live within names
    reply c.in_ok-wrote.ensures.ok (ap why_refused reply ∙ cause) c.end-2.ensures))
