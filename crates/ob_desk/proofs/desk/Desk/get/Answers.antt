use Rattle.std.proofs.Common.{◌≡◌, List, refl, sym, ap, ◌∙◌, subst, inl, inr}
use Rattle.std.proofs.lemmas.Result.{IfOk-from_err}
use Rattle.ob_order.specs.OrderModel.{OrderModel}
use Rattle.ob_shares.specs.declared.named.Named.{Named}
use Rattle.ob_shares.specs.Shares.{Uses, past, with_name}
use Rattle.ob_shares.specs.Seen.{uses_of}
use Rattle.ob_shares.specs.declared.uses.Uses.{Uses as CodeUses}
use Rattle.ob_desk.specs.Desk.{outcome_at}
use Rattle.ob_desk.specs.Parts.{HasGoing}
use Rattle.ob_desk.proofs.Allowed.{was_aborted, free_live}
use Rattle.ob_desk.proofs.Steps.{get_step, queued_step, full_step}
use Rattle.ob_desk.proofs.Going.{kept_order, read_listed}
use Rattle.ob_desk.proofs.desk.Desk.get.Goals as goal

pub invariant_of-self-in-Value : goal.invariant_of-self-in-Value
invariant_of-self-in-Value c =
    let a = c.self.inside in
    kept_order a.running a.other a.is_closed a.stopped c.read.new.self _ c.self.invariant (ap (λ (o : OrderModel). o.params) c.in_ok-read.ensures.ok)
    (subst (λ (o : OrderModel). HasGoing o.state.works a.running.going.items) (sym c.in_ok-read.ensures.ok) (read_listed a.running.order.state _ _ _ a.running.going.items c.self.invariant.going))

pub invariant_of-self-in-Queued : goal.invariant_of-self-in-Queued
invariant_of-self-in-Queued c =
    let a = c.self.inside in
    kept_order a.running a.other a.is_closed a.stopped c.read.new.self _ c.self.invariant (ap (λ (o : OrderModel). o.params) c.in_ok-read.ensures.ok)
    (subst (λ (o : OrderModel). HasGoing o.state.works a.running.going.items) (sym c.in_ok-read.ensures.ok) (read_listed a.running.order.state _ _ _ a.running.going.items c.self.invariant.going))

pub returns-in-Some-clause-step : goal.returns-in-Some-clause-step
returns-in-Some-clause-step c = inl (record {
  earlier = was_aborted (outcome_at c.args.self.now c.args.txn.now) c.in-Some.why (sym c.why_aborted.ensures ∙ c.in-Some.is);
  same = refl;
})

pub returns-in_err-read-clause-step : goal.returns-in_err-read-clause-step
returns-in_err-read-clause-step c = IfOk-from_err c.from_residual-in_err-read.result _ c.from_residual-in_err-read.ensures.0

pub returns-in_err-make_room-clause-step : goal.returns-in_err-make_room-clause-step
returns-in_err-make_room-clause-step c = IfOk-from_err c.from_residual.result _ c.from_residual.ensures.0

pub returns-in-Value-clause-step : goal.returns-in-Value-clause-step
returns-in-Value-clause-step c =
    let a = c.self.inside in
    let live = free_live c.args.self.now c.args.txn.now c.requires.1 (sym c.why_aborted.ensures ∙ c.in_default.is) in
    let kept : CodeUses = record a.running.uses { reads = c.add_name.new.names } in
    let names = ap (λ (ns : List Named). let us : Uses = record (uses_of a.running.uses) { reads = ns } in us)
    (c.add_name.ensures ∙ ap (λ (ns : List Named). with_name a.shares.reads ns c.args.txn.now.client c.args.key) c.make_room.ensures.items) in
    let within = ap (λ (ns : List Named). past a.shares.reads ns c.args.txn.now.client c.args.key) (sym c.deref.ensures.value) ∙ sym c.past.ensures ∙ c.in_default-past.is in
    get_step a.shares a.clients.items a.stopped a.running a.other a.is_closed c.read.new.self kept c.args.txn.now c.args.key _ _ _ c.args.self.now c.self.view_is live within names
    c.in_ok-read.ensures.reply c.in_ok-read.ensures.ok c.in-Value.is

pub returns-in-Queued-clause-step : goal.returns-in-Queued-clause-step
returns-in-Queued-clause-step c =
    let a = c.self.inside in
    let live = free_live c.args.self.now c.args.txn.now c.requires.1 (sym c.why_aborted.ensures ∙ c.in_default.is) in
    let kept : CodeUses = record a.running.uses { reads = c.add_name.new.names } in
    let names = ap (λ (ns : List Named). let us : Uses = record (uses_of a.running.uses) { reads = ns } in us)
    (c.add_name.ensures ∙ ap (λ (ns : List Named). with_name a.shares.reads ns c.args.txn.now.client c.args.key) c.make_room.ensures.items) in
    let within = ap (λ (ns : List Named). past a.shares.reads ns c.args.txn.now.client c.args.key) (sym c.deref.ensures.value) ∙ sym c.past.ensures ∙ c.in_default-past.is in
    queued_step a.shares a.clients.items a.stopped a.running a.other a.is_closed c.read.new.self kept c.args.txn.now c.args.key _ c.args.self.now c.self.view_is live within names
    c.in_ok-read.ensures.reply c.in_ok-read.ensures.ok c.in-Queued.is

pub returns-in-Full-clause-step : goal.returns-in-Full-clause-step
returns-in-Full-clause-step c =
    let a = c.self.inside in
    let live = free_live c.args.self.now c.args.txn.now c.requires.1 (sym c.why_aborted.ensures ∙ c.in_default.is) in
    let kept : CodeUses = record a.running.uses { reads = c.add_name.new.names } in
    let names = ap (λ (ns : List Named). let us : Uses = record (uses_of a.running.uses) { reads = ns } in us)
    (c.add_name.ensures ∙ ap (λ (ns : List Named). with_name a.shares.reads ns c.args.txn.now.client c.args.key) c.make_room.ensures.items) in
    let within = ap (λ (ns : List Named). past a.shares.reads ns c.args.txn.now.client c.args.key) (sym c.deref.ensures.value) ∙ sym c.past.ensures ∙ c.in_default-past.is in
    inr (inl (full_step a.shares a.clients.items a.stopped a.running a.other a.is_closed c.read.new.self kept c.args.txn.now c.args.key _ _ _ c.args.self.now c.end-in-Full.new.self c.self.view_is live within names
    c.in_ok-read.ensures.reply c.in_ok-read.ensures.ok c.in-Full.is c.end-in-Full.ensures))
