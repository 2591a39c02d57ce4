use Rattle.std.proofs.Common.{◌≤◌, ℕ, ◌++◌, sym, ap, subst, ◌∙◌}
use Rattle.std.specs.List.{All}
use Rattle.ob_desk.specs.Desk.{Setup}
use Rattle.ob_session.specs.Steps.{steps_of, IsOwn}
use Rattle.ob_session.specs.Clients.{said_by, stands_after}
use Rattle.ob_session.specs.Agreeing.{Agrees}
use Rattle.ob_hall.specs.Passes.{Steps, said_of}
use Rattle.ob_hall.specs.Driving.{TurnSays}
use Rattle.ob_hall.proofs.Turning as turning
use Rattle.ob_hall.proofs.Stepping.{said_after, makes_step, stands_behind}
use Rattle.ob_hall.proofs.driving.take_turn.Goals as goal

pub step-step-requires-clause-bound : goal.step-step-requires-clause-bound
step-step-requires-clause-bound g c =
    subst (λ (s : Setup). g.U.Runner.bound c.args.runner.now ≤ s.params.keys) (sym (turning.setup_is c.args.hall.now c.args.pass.now c.enter_behind-desk.new.pass c.enter_behind-desk.result.0 c.requires.ready c.enter_behind-desk.ensures.entered)) c.requires.bound

pub step-step-requires-clause-agrees : goal.step-step-requires-clause-agrees
step-step-requires-clause-agrees g c = (
  said_of c.args.pass.now,
  c.requires.fits,
  subst (λ (n : ℕ). Agrees c.enter_behind-desk.result.0 n (said_of c.args.pass.now)) (sym c.requires.client) (turning.desk_agrees c.args.hall.now c.args.pass.now c.enter_behind-desk.new.pass c.enter_behind-desk.result.0 c.requires.ready c.enter_behind-desk.ensures.entered),
)

pub leave_client-requires-clause-desk : goal.leave_client-requires-clause-desk
leave_client-requires-clause-desk g c =
    turning.may_leave c.args.hall.now c.args.pass.now c.enter_behind-desk.new.pass c.enter_behind-desk.result.0 c.requires.ready c.enter_behind-desk.ensures.entered c.step-step.new.desk (steps_of c.step-step.result.1) c.step-step.ensures.made
    (subst (λ (n : ℕ). All (IsOwn n) (steps_of c.step-step.result.1)) c.requires.client c.step-step.ensures.own)

pub returns-clause-one_history : goal.returns-clause-one_history
returns-clause-one_history g c =
    let own : All (IsOwn c.args.pass.now.client) (steps_of c.step-step.result.1) = subst (λ (n : ℕ). All (IsOwn n) (steps_of c.step-step.result.1)) c.requires.client c.step-step.ensures.own in
    turning.tells c.args.hall.now c.args.pass.now c.enter_behind-desk.new.pass c.enter_behind-desk.result.0 c.requires.ready c.enter_behind-desk.ensures.entered c.leave_client.new.pass c.step-step.new.desk (steps_of c.step-step.result.1) (TurnSays c.args.pass.now.client (said_of c.args.pass.now))
    c.step-step.ensures.made own c.leave_client.ensures.left (own, c.step-step.ensures.one (said_of c.args.pass.now) c.requires.fits)

pub returns-clause-fits : goal.returns-clause-fits
returns-clause-fits g c =
    let own : All (IsOwn c.args.pass.now.client) (steps_of c.step-step.result.1) = subst (λ (n : ℕ). All (IsOwn n) (steps_of c.step-step.result.1)) c.requires.client c.step-step.ensures.own in
    subst (λ (said : Steps). g.U.Runner.fits c.step-step.new.self said)
    (ap (λ (n : ℕ). said_of c.args.pass.now ++ said_by n (steps_of c.step-step.result.1)) c.requires.client
    ∙ sym (said_after c.args.hall.now c.args.pass.now c.enter_behind-desk.new.pass c.leave_client.new.pass c.enter_behind-desk.result.0 c.step-step.new.desk (steps_of c.step-step.result.1) c.requires.ready c.enter_behind-desk.ensures.entered c.step-step.ensures.made own c.leave_client.ensures.left))
    (c.step-step.ensures.fits (said_of c.args.pass.now) c.requires.fits)

pub returns-clause-step : goal.returns-clause-step
returns-clause-step g c =
    let own : All (IsOwn c.args.pass.now.client) (steps_of c.step-step.result.1) = subst (λ (n : ℕ). All (IsOwn n) (steps_of c.step-step.result.1)) c.requires.client c.step-step.ensures.own in
    c.step-step.ensures.step (said_of c.args.pass.now) c.requires.fits
    ∙ ap stands_after
    (ap (λ (n : ℕ). said_of c.args.pass.now ++ said_by n (steps_of c.step-step.result.1)) c.requires.client
    ∙ sym (said_after c.args.hall.now c.args.pass.now c.enter_behind-desk.new.pass c.leave_client.new.pass c.enter_behind-desk.result.0 c.step-step.new.desk (steps_of c.step-step.result.1) c.requires.ready c.enter_behind-desk.ensures.entered c.step-step.ensures.made own c.leave_client.ensures.left))

pub returns-clause-turn : goal.returns-clause-turn
returns-clause-turn g c = makes_step (g.U.Runner.turn (g.U.Runner.plan c.args.runner.now)) c.args.hall.now c.args.pass.now c.enter_behind-desk.new.pass c.leave_client.new.pass c.enter_behind-desk.result.0 (steps_of c.step-step.result.1) c.enter_behind-desk.ensures.entered c.leave_client.ensures.left
    (subst (λ (n : ℕ). g.U.Runner.turn (g.U.Runner.plan c.args.runner.now) n (said_of c.args.pass.now) (steps_of c.step-step.result.1)) c.requires.client (c.step-step.ensures.turn (said_of c.args.pass.now) c.requires.fits))

pub returns-clause-behind : goal.returns-clause-behind
returns-clause-behind g c = stands_behind c.args.turns.now c.enter_behind-desk.new.pass c.leave_client.new.pass c.enter_behind-desk.result.1 (steps_of c.step-step.result.1) c.enter_behind-desk.ensures.behind c.leave_client.ensures.left

pub enter_behind-desk-requires-clause-own : goal.enter_behind-desk-requires-clause-own
enter_behind-desk-requires-clause-own g c = c.requires.ready.own

pub enter_behind-desk-requires-clause-idle : goal.enter_behind-desk-requires-clause-idle
enter_behind-desk-requires-clause-idle g c = c.requires.ready.idle

pub leave_client-requires-clause-own : goal.leave_client-requires-clause-own
leave_client-requires-clause-own g c = c.enter_behind-desk.ensures.own

pub leave_client-requires-clause-inside : goal.leave_client-requires-clause-inside
leave_client-requires-clause-inside g c = c.enter_behind-desk.ensures.entered.enters.inside

pub returns-clause-client : goal.returns-clause-client
returns-clause-client g c = c.step-step.ensures.client

pub returns-clause-bound : goal.returns-clause-bound
returns-clause-bound g c = c.step-step.ensures.bound

pub returns-clause-plan : goal.returns-clause-plan
returns-clause-plan g c = c.step-step.ensures.plan

pub returns-clause-ready : goal.returns-clause-ready
returns-clause-ready g c = turning.ready_after c.args.hall.now c.args.pass.now c.enter_behind-desk.new.pass c.enter_behind-desk.result.0 c.requires.ready c.enter_behind-desk.ensures.entered c.leave_client.new.pass (steps_of c.step-step.result.1) c.leave_client.ensures.left
