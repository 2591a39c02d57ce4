use Rattle.std.proofs.Common.{ap, ◌∙◌}
use Rattle.std.proofs.lemmas.Result.{IfOk-from_err}
use Rattle.ob_desk.specs.Desk.{Part}
use Rattle.ob_desk.proofs.Steps.{told_err, kept_part, same_desk, begin_step}
use Rattle.ob_desk.proofs.desk.Desk.begin.Goals as goal

pub invariant_of-self : goal.invariant_of-self
invariant_of-self c =
    let a = c.self.inside in
    kept_part a.shares a.clients.items a.stopped a.running c.draw.new.part a.other a.is_closed c.draw.ensures.params c.self.invariant (ap (λ (p : Part). p.epoch) c.in_err-ticket.ensures.err) c.draw.ensures.room c.draw.ensures.going

pub returns-in_err-ticket-clause-step : goal.returns-in_err-ticket-clause-step
returns-in_err-ticket-clause-step c = IfOk-from_err c.from_residual.result _ c.from_residual.ensures.0

pub returns-in_err-ticket-clause-err : goal.returns-in_err-ticket-clause-err
returns-in_err-ticket-clause-err c =
    let a = c.self.inside in
    told_err c.from_residual.result (same_desk a.shares a.clients.items a.stopped a.running c.draw.new.part a.other a.is_closed c.draw.ensures.params c.in_err-ticket.ensures.err ∙ c.self.view_is)

pub invariant_of-self-2 : goal.invariant_of-self-2
invariant_of-self-2 c =
    let a = c.self.inside in
    kept_part a.shares a.clients.items a.stopped a.running c.draw.new.part a.other a.is_closed c.draw.ensures.params c.self.invariant (ap (λ (p : Part). p.epoch) c.in_ok-ticket.ensures.ok) c.draw.ensures.room c.draw.ensures.going

pub returns-clause-step : goal.returns-clause-step
returns-clause-step c =
    let a = c.self.inside in
    begin_step a.shares a.clients.items a.stopped a.running c.draw.new.part a.other a.is_closed c.draw.ensures.params c.args.client c.in_ok-ticket.ticket c.begin_client.new.clients.items c.args.self.now c.self.view_is
    c.in_default.is c.in_ok-ticket.ensures.ok c.in_ok-ticket.ensures.ticket c.begin_client.ensures
