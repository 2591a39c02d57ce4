use Rattle.std.proofs.Common.{refl, ◌∙◌, Ok, Err}
use Rattle.ob_desk.specs.Desk as desk
use Rattle.ob_desk.specs.Calls.{got_reply}
use Rattle.ob_session.specs.Steps.{steps_of}
use Rattle.ob_calls.specs.Waiting.{AskSays}
use Rattle.ob_hall.proofs.Turning as turning
use Rattle.ob_calls.proofs.Asking.{ask_stands, ask_failed}
use Rattle.ob_calls.proofs.waits.ask.Goals as goal

pub get-requires : goal.get-requires
get-requires g c = turning.get_allowed c.args.hall.now c.args.pass.now c.enter-desk.new.pass c.enter-desk.result c.requires.ready c.enter-desk.ensures.entered c.args.txn.now c.args.key c.requires.inside c.requires.key

pub leave_client-requires-clause-desk : goal.leave_client-requires-clause-desk
leave_client-requires-clause-desk g c =
    turning.leave_one c.args.hall.now c.args.pass.now c.enter-desk.new.pass c.enter-desk.result c.requires.ready c.enter-desk.ensures.entered c.get.new.self (steps_of c.got.result) (desk.GetKey c.args.txn.now c.args.key) (got_reply c.in-Ok.reply) c.got.ensures
    (turning.get_allowed c.args.hall.now c.args.pass.now c.enter-desk.new.pass c.enter-desk.result c.requires.ready c.enter-desk.ensures.entered c.args.txn.now c.args.key c.requires.inside c.requires.key) c.in-Ok.ensures.step c.requires.inside.client

pub leave_client-requires-in-Err-clause-desk : goal.leave_client-requires-in-Err-clause-desk
leave_client-requires-in-Err-clause-desk g c = turning.leave_none c.args.hall.now c.args.pass.now c.enter-desk.new.pass c.enter-desk.result c.requires.ready c.enter-desk.ensures.entered c.get.new.self (steps_of c.no_call.result) c.no_call.ensures c.in-Err.ensures.err

pub returns-in-Ok-clause-one_history : goal.returns-in-Ok-clause-one_history
returns-in-Ok-clause-one_history g c =
    turning.tells_one c.args.hall.now c.args.pass.now c.enter-desk.new.pass c.enter-desk.result c.requires.ready c.enter-desk.ensures.entered c.leave_client.new.pass c.get.new.self (steps_of c.got.result) (desk.GetKey c.args.txn.now c.args.key)
    (got_reply c.in-Ok.reply) (AskSays c.args.txn.now c.args.key (Ok c.in-Ok.reply))
    c.got.ensures (turning.get_allowed c.args.hall.now c.args.pass.now c.enter-desk.new.pass c.enter-desk.result c.requires.ready c.enter-desk.ensures.entered c.args.txn.now c.args.key c.requires.inside c.requires.key) c.in-Ok.ensures.step c.requires.inside.client c.leave_client.ensures.left refl

pub returns-in-Ok-clause-stands : goal.returns-in-Ok-clause-stands
returns-in-Ok-clause-stands g c =
    ask_stands c.args.hall.now c.args.pass.now c.enter-desk.new.pass c.enter-desk.result c.requires.ready c.enter-desk.ensures.entered c.leave_client.new.pass c.args.txn.now c.args.key c.in-Ok.reply c.get.new.self c.requires.inside c.in-Ok.ensures.step
    (turning.tells_one c.args.hall.now c.args.pass.now c.enter-desk.new.pass c.enter-desk.result c.requires.ready c.enter-desk.ensures.entered c.leave_client.new.pass c.get.new.self (steps_of c.got.result) (desk.GetKey c.args.txn.now c.args.key)
    (got_reply c.in-Ok.reply) (AskSays c.args.txn.now c.args.key (Ok c.in-Ok.reply))
    c.got.ensures (turning.get_allowed c.args.hall.now c.args.pass.now c.enter-desk.new.pass c.enter-desk.result c.requires.ready c.enter-desk.ensures.entered c.args.txn.now c.args.key c.requires.inside c.requires.key) c.in-Ok.ensures.step c.requires.inside.client c.leave_client.ensures.left refl)
    (c.leave_client.ensures.left.beside.last ∙ c.enter-desk.ensures.entered.beside.last)

pub returns-in-Err-clause-one_history : goal.returns-in-Err-clause-one_history
returns-in-Err-clause-one_history g c =
    turning.tells_none c.args.hall.now c.args.pass.now c.enter-desk.new.pass c.enter-desk.result c.requires.ready c.enter-desk.ensures.entered c.leave_client-in-Err.new.pass c.get.new.self (steps_of c.no_call.result)
    (AskSays c.args.txn.now c.args.key (Err c.in-Err.memory)) c.no_call.ensures c.in-Err.ensures.err c.leave_client-in-Err.ensures.left refl

pub returns-in-Err-clause-stands : goal.returns-in-Err-clause-stands
returns-in-Err-clause-stands g c =
    ask_failed c.args.hall.now c.args.pass.now c.leave_client-in-Err.new.pass c.args.txn.now c.args.key c.in-Err.memory c.requires.inside
    (turning.tells_none c.args.hall.now c.args.pass.now c.enter-desk.new.pass c.enter-desk.result c.requires.ready c.enter-desk.ensures.entered c.leave_client-in-Err.new.pass c.get.new.self (steps_of c.no_call.result)
    (AskSays c.args.txn.now c.args.key (Err c.in-Err.memory)) c.no_call.ensures c.in-Err.ensures.err c.leave_client-in-Err.ensures.left refl)
    (c.leave_client-in-Err.ensures.left.beside.last ∙ c.enter-desk.ensures.entered.beside.last)

pub enter-desk-requires-clause-own : goal.enter-desk-requires-clause-own
enter-desk-requires-clause-own g c = c.requires.ready.own

pub enter-desk-requires-clause-idle : goal.enter-desk-requires-clause-idle
enter-desk-requires-clause-idle g c = c.requires.ready.idle

pub leave_client-requires-clause-own : goal.leave_client-requires-clause-own
leave_client-requires-clause-own g c = c.enter-desk.ensures.own

pub leave_client-requires-clause-inside : goal.leave_client-requires-clause-inside
leave_client-requires-clause-inside g c = c.enter-desk.ensures.entered.enters.inside

pub leave_client-requires-in-Err-clause-own : goal.leave_client-requires-in-Err-clause-own
leave_client-requires-in-Err-clause-own g c = c.enter-desk.ensures.own

pub leave_client-requires-in-Err-clause-inside : goal.leave_client-requires-in-Err-clause-inside
leave_client-requires-in-Err-clause-inside g c = c.enter-desk.ensures.entered.enters.inside

pub returns-in-Ok-clause-last : goal.returns-in-Ok-clause-last
returns-in-Ok-clause-last g c = c.leave_client.ensures.left.beside.last ∙ c.enter-desk.ensures.entered.beside.last

pub returns-in-Ok-clause-ready : goal.returns-in-Ok-clause-ready
returns-in-Ok-clause-ready g c = turning.ready_after c.args.hall.now c.args.pass.now c.enter-desk.new.pass c.enter-desk.result c.requires.ready c.enter-desk.ensures.entered c.leave_client.new.pass (steps_of c.got.result) c.leave_client.ensures.left

pub returns-in-Err-clause-last : goal.returns-in-Err-clause-last
returns-in-Err-clause-last g c = c.leave_client-in-Err.ensures.left.beside.last ∙ c.enter-desk.ensures.entered.beside.last

pub returns-in-Err-clause-ready : goal.returns-in-Err-clause-ready
returns-in-Err-clause-ready g c = turning.ready_after c.args.hall.now c.args.pass.now c.enter-desk.new.pass c.enter-desk.result c.requires.ready c.enter-desk.ensures.entered c.leave_client-in-Err.new.pass (steps_of c.no_call.result) c.leave_client-in-Err.ensures.left
