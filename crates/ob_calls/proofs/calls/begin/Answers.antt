use Rattle.std.proofs.Common.{refl, ap, ◌∙◌, Option, Ok, Err}
use Rattle.ob_desk.specs.declared.calls.Txn.{Txn}
use Rattle.ob_desk.specs.Desk as desk
use Rattle.ob_desk.specs.Calls.{begun_reply}
use Rattle.ob_session.specs.Steps.{steps_of}
use Rattle.ob_calls.specs.Saying.{BeginSays, last_begun}
use Rattle.ob_hall.proofs.Turning as turning
use Rattle.ob_calls.proofs.Afterwards.{begin_stands, is_named}
use Rattle.ob_calls.proofs.calls.begin.Goals as goal

pub begin-requires : goal.begin-requires
begin-requires g c = turning.begin_allowed c.args.hall.now c.args.pass.now c.enter-desk.new.pass c.enter-desk.result c.requires.ready c.enter-desk.ensures.entered c.requires.between

pub leave_client-requires-clause-desk : goal.leave_client-requires-clause-desk
leave_client-requires-clause-desk g c =
    turning.leave_one c.args.hall.now c.args.pass.now c.enter-desk.new.pass c.enter-desk.result c.requires.ready c.enter-desk.ensures.entered c.begin.new.self (steps_of c.one.result) (desk.Begin c.args.pass.now.client) (begun_reply c.in-Ok.reply) c.one.ensures
    (turning.begin_allowed c.args.hall.now c.args.pass.now c.enter-desk.new.pass c.enter-desk.result c.requires.ready c.enter-desk.ensures.entered c.requires.between) c.in-Ok.ensures.step refl

pub leave_client-requires-in-Err-clause-desk : goal.leave_client-requires-in-Err-clause-desk
leave_client-requires-in-Err-clause-desk g c = turning.leave_none c.args.hall.now c.args.pass.now c.enter-desk.new.pass c.enter-desk.result c.requires.ready c.enter-desk.ensures.entered c.begin.new.self (steps_of c.no_call.result) c.no_call.ensures c.in-Err.ensures.err

pub returns-in-Ok-clause-one_history : goal.returns-in-Ok-clause-one_history
returns-in-Ok-clause-one_history g c =
    turning.tells_last c.args.hall.now c.args.pass.now c.leave_client.new.pass c.last_behind-pass.result (BeginSays c.args.pass.now.client (Ok c.in-Ok.reply))
    (turning.tells_one c.args.hall.now c.args.pass.now c.enter-desk.new.pass c.enter-desk.result c.requires.ready c.enter-desk.ensures.entered c.leave_client.new.pass c.begin.new.self (steps_of c.one.result) (desk.Begin c.args.pass.now.client)
    (begun_reply c.in-Ok.reply) (BeginSays c.args.pass.now.client (Ok c.in-Ok.reply))
    c.one.ensures (turning.begin_allowed c.args.hall.now c.args.pass.now c.enter-desk.new.pass c.enter-desk.result c.requires.ready c.enter-desk.ensures.entered c.requires.between) c.in-Ok.ensures.step refl c.leave_client.ensures.left refl)

pub returns-in-Err-clause-one_history : goal.returns-in-Err-clause-one_history
returns-in-Err-clause-one_history g c =
    turning.tells_none c.args.hall.now c.args.pass.now c.enter-desk.new.pass c.enter-desk.result c.requires.ready c.enter-desk.ensures.entered c.leave_client-in-Err.new.pass c.begin.new.self (steps_of c.no_call.result)
    (BeginSays c.args.pass.now.client (Err c.in-Err.memory)) c.no_call.ensures c.in-Err.ensures.err c.leave_client-in-Err.ensures.left refl

pub returns-in-Ok-clause-stands : goal.returns-in-Ok-clause-stands
returns-in-Ok-clause-stands g c =
    begin_stands c.args.hall.now c.args.pass.now (record c.leave_client.new.pass { last = c.last_behind-pass.result }) (Ok c.in-Ok.reply) c.requires.between
    (turning.tells_last c.args.hall.now c.args.pass.now c.leave_client.new.pass c.last_behind-pass.result (BeginSays c.args.pass.now.client (Ok c.in-Ok.reply))
    (turning.tells_one c.args.hall.now c.args.pass.now c.enter-desk.new.pass c.enter-desk.result c.requires.ready c.enter-desk.ensures.entered c.leave_client.new.pass c.begin.new.self (steps_of c.one.result) (desk.Begin c.args.pass.now.client)
    (begun_reply c.in-Ok.reply) (BeginSays c.args.pass.now.client (Ok c.in-Ok.reply))
    c.one.ensures (turning.begin_allowed c.args.hall.now c.args.pass.now c.enter-desk.new.pass c.enter-desk.result c.requires.ready c.enter-desk.ensures.entered c.requires.between) c.in-Ok.ensures.step refl c.leave_client.ensures.left refl))
    (c.last_behind-pass.ensures ∙ ap (λ (o : Option Txn). last_begun o (Ok c.in-Ok.reply)) (c.leave_client.ensures.left.beside.last ∙ c.enter-desk.ensures.entered.beside.last)) (is_named c.enter-desk.result c.args.pass.now.client c.in-Ok.reply c.begin.new.self c.in-Ok.ensures.step)

pub returns-in-Err-clause-stands : goal.returns-in-Err-clause-stands
returns-in-Err-clause-stands g c =
    begin_stands c.args.hall.now c.args.pass.now c.leave_client-in-Err.new.pass (Err c.in-Err.memory) c.requires.between
    (turning.tells_none c.args.hall.now c.args.pass.now c.enter-desk.new.pass c.enter-desk.result c.requires.ready c.enter-desk.ensures.entered c.leave_client-in-Err.new.pass c.begin.new.self (steps_of c.no_call.result)
    (BeginSays c.args.pass.now.client (Err c.in-Err.memory)) c.no_call.ensures c.in-Err.ensures.err c.leave_client-in-Err.ensures.left refl)
    (c.leave_client-in-Err.ensures.left.beside.last ∙ c.enter-desk.ensures.entered.beside.last) tt

pub enter-desk-requires-clause-own : goal.enter-desk-requires-clause-own
enter-desk-requires-clause-own g c = c.requires.ready.own

pub enter-desk-requires-clause-idle : goal.enter-desk-requires-clause-idle
enter-desk-requires-clause-idle g c = c.requires.ready.idle

pub leave_client-requires-clause-own : goal.leave_client-requires-clause-own
leave_client-requires-clause-own g c = c.enter-desk.ensures.own

pub leave_client-requires-clause-inside : goal.leave_client-requires-clause-inside
leave_client-requires-clause-inside g c = c.enter-desk.ensures.entered.enters.inside

pub leave_client-requires-in-Err-clause-own : goal.leave_client-requires-in-Err-clause-own
leave_client-requires-in-Err-clause-own g c = c.enter-desk.ensures.own

pub leave_client-requires-in-Err-clause-inside : goal.leave_client-requires-in-Err-clause-inside
leave_client-requires-in-Err-clause-inside g c = c.enter-desk.ensures.entered.enters.inside

pub returns-in-Ok-clause-last : goal.returns-in-Ok-clause-last
returns-in-Ok-clause-last g c = c.last_behind-pass.ensures ∙ ap (λ (o : Option Txn). last_begun o (Ok c.in-Ok.reply)) (c.leave_client.ensures.left.beside.last ∙ c.enter-desk.ensures.entered.beside.last)

pub returns-in-Ok-clause-named : goal.returns-in-Ok-clause-named
returns-in-Ok-clause-named g c = is_named c.enter-desk.result c.args.pass.now.client c.in-Ok.reply c.begin.new.self c.in-Ok.ensures.step

pub returns-in-Ok-clause-ready : goal.returns-in-Ok-clause-ready
returns-in-Ok-clause-ready g c =
    turning.ready_last c.args.hall.now c.leave_client.new.pass c.last_behind-pass.result
    (turning.ready_after c.args.hall.now c.args.pass.now c.enter-desk.new.pass c.enter-desk.result c.requires.ready c.enter-desk.ensures.entered c.leave_client.new.pass (steps_of c.one.result) c.leave_client.ensures.left)

pub returns-in-Err-clause-last : goal.returns-in-Err-clause-last
returns-in-Err-clause-last g c = c.leave_client-in-Err.ensures.left.beside.last ∙ c.enter-desk.ensures.entered.beside.last

pub returns-in-Err-clause-named : goal.returns-in-Err-clause-named
returns-in-Err-clause-named g c = tt

pub returns-in-Err-clause-ready : goal.returns-in-Err-clause-ready
returns-in-Err-clause-ready g c = turning.ready_after c.args.hall.now c.args.pass.now c.enter-desk.new.pass c.enter-desk.result c.requires.ready c.enter-desk.ensures.entered c.leave_client-in-Err.new.pass (steps_of c.no_call.result) c.leave_client-in-Err.ensures.left
