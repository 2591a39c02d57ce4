use Rattle.std.proofs.Common.{refl, ◌∙◌, None, Err}
use Rattle.ob_desk.specs.Desk as desk
use Rattle.ob_desk.specs.Calls.{done_reply}
use Rattle.ob_session.specs.Steps.{steps_of}
use Rattle.ob_calls.specs.declared.calls.Refused.TheVariants as refused
use Rattle.ob_hall.specs.Calling.{TellsCalls}
use Rattle.ob_calls.specs.Saying.{WriteSays, StaysIn}
use Rattle.ob_hall.proofs.Turning as turning
use Rattle.ob_calls.proofs.Afterwards.{write_stands}
use Rattle.ob_calls.proofs.calls.del.Goals as goal

pub del-requires : goal.del-requires
del-requires g c = turning.write_allowed c.args.hall.now c.args.pass.now c.enter-desk.new.pass c.enter-desk.result c.requires.ready c.enter-desk.ensures.entered c.in-Some.txn c.args.key None (turning.is_in c.args.pass.now c.in-Some.txn c.in-Some.is c.requires.inside) c.requires.key

pub leave_client-requires-clause-desk : goal.leave_client-requires-clause-desk
leave_client-requires-clause-desk g c =
    let i = (turning.is_in c.args.pass.now c.in-Some.txn c.in-Some.is c.requires.inside) in
    turning.leave_one c.args.hall.now c.args.pass.now c.enter-desk.new.pass c.enter-desk.result c.requires.ready c.enter-desk.ensures.entered c.del.new.self (steps_of c.one.result) (desk.Write c.in-Some.txn c.args.key None) (done_reply c.in-Ok.reply)
    c.one.ensures (turning.write_allowed c.args.hall.now c.args.pass.now c.enter-desk.new.pass c.enter-desk.result c.requires.ready c.enter-desk.ensures.entered c.in-Some.txn c.args.key None i c.requires.key) c.in-Ok.ensures.step i.client

pub leave_client-requires-in-Err-clause-desk : goal.leave_client-requires-in-Err-clause-desk
leave_client-requires-in-Err-clause-desk g c = turning.leave_none c.args.hall.now c.args.pass.now c.enter-desk.new.pass c.enter-desk.result c.requires.ready c.enter-desk.ensures.entered c.del.new.self (steps_of c.no_call.result) c.no_call.ensures c.in-Err.ensures.err

pub returns-in-Ok-clause-one_history : goal.returns-in-Ok-clause-one_history
returns-in-Ok-clause-one_history g c =
    let i = (turning.is_in c.args.pass.now c.in-Some.txn c.in-Some.is c.requires.inside) in
    turning.of_any c.args.pass.now c.in-Some.txn (λ x. TellsCalls c.args.hall.now c.args.pass.now c.leave_client.new.pass (WriteSays x c.args.key None c.answer_of.result)) c.in-Some.is
    (turning.tells_one c.args.hall.now c.args.pass.now c.enter-desk.new.pass c.enter-desk.result c.requires.ready c.enter-desk.ensures.entered c.leave_client.new.pass c.del.new.self (steps_of c.one.result) (desk.Write c.in-Some.txn c.args.key None)
    (done_reply c.in-Ok.reply) (WriteSays c.in-Some.txn c.args.key None c.answer_of.result)
    c.one.ensures (turning.write_allowed c.args.hall.now c.args.pass.now c.enter-desk.new.pass c.enter-desk.result c.requires.ready c.enter-desk.ensures.entered c.in-Some.txn c.args.key None i c.requires.key) c.in-Ok.ensures.step i.client
    c.leave_client.ensures.left (c.answer_of.ensures c.in-Some.txn c.args.key None))

pub returns-in-Err-clause-one_history : goal.returns-in-Err-clause-one_history
returns-in-Err-clause-one_history g c =
    turning.of_any c.args.pass.now c.in-Some.txn (λ x. TellsCalls c.args.hall.now c.args.pass.now c.leave_client-in-Err.new.pass (WriteSays x c.args.key None (Err refused.Memory))) c.in-Some.is
    (turning.tells_none c.args.hall.now c.args.pass.now c.enter-desk.new.pass c.enter-desk.result c.requires.ready c.enter-desk.ensures.entered c.leave_client-in-Err.new.pass c.del.new.self (steps_of c.no_call.result)
    (WriteSays c.in-Some.txn c.args.key None (Err refused.Memory)) c.no_call.ensures c.in-Err.ensures.err c.leave_client-in-Err.ensures.left refl)

pub returns-in-Ok-clause-stands : goal.returns-in-Ok-clause-stands
returns-in-Ok-clause-stands g c =
    let i = (turning.is_in c.args.pass.now c.in-Some.txn c.in-Some.is c.requires.inside) in
    turning.of_any c.args.pass.now c.in-Some.txn (λ x. StaysIn c.answer_of.result c.args.pass.now c.leave_client.new.pass x) c.in-Some.is
    (write_stands c.args.hall.now c.args.pass.now c.leave_client.new.pass c.in-Some.txn c.args.key None c.answer_of.result i
    (turning.tells_one c.args.hall.now c.args.pass.now c.enter-desk.new.pass c.enter-desk.result c.requires.ready c.enter-desk.ensures.entered c.leave_client.new.pass c.del.new.self (steps_of c.one.result) (desk.Write c.in-Some.txn c.args.key None)
    (done_reply c.in-Ok.reply) (WriteSays c.in-Some.txn c.args.key None c.answer_of.result)
    c.one.ensures (turning.write_allowed c.args.hall.now c.args.pass.now c.enter-desk.new.pass c.enter-desk.result c.requires.ready c.enter-desk.ensures.entered c.in-Some.txn c.args.key None i c.requires.key) c.in-Ok.ensures.step i.client
    c.leave_client.ensures.left (c.answer_of.ensures c.in-Some.txn c.args.key None))
    (c.leave_client.ensures.left.beside.last ∙ c.enter-desk.ensures.entered.beside.last))

pub returns-in-Err-clause-stands : goal.returns-in-Err-clause-stands
returns-in-Err-clause-stands g c =
    let i = turning.is_in c.args.pass.now c.in-Some.txn c.in-Some.is c.requires.inside in
    turning.of_any c.args.pass.now c.in-Some.txn (λ x. StaysIn {A = Unit {0}} (Err refused.Memory) c.args.pass.now c.leave_client-in-Err.new.pass x) c.in-Some.is
    (write_stands c.args.hall.now c.args.pass.now c.leave_client-in-Err.new.pass c.in-Some.txn c.args.key None (Err refused.Memory) i
    (turning.tells_none c.args.hall.now c.args.pass.now c.enter-desk.new.pass c.enter-desk.result c.requires.ready c.enter-desk.ensures.entered c.leave_client-in-Err.new.pass c.del.new.self (steps_of c.no_call.result)
    (WriteSays c.in-Some.txn c.args.key None (Err refused.Memory)) c.no_call.ensures c.in-Err.ensures.err c.leave_client-in-Err.ensures.left refl)
    (c.leave_client-in-Err.ensures.left.beside.last ∙ c.enter-desk.ensures.entered.beside.last))

pub enter-desk-requires-clause-own : goal.enter-desk-requires-clause-own
enter-desk-requires-clause-own g c = c.requires.ready.own

pub enter-desk-requires-clause-idle : goal.enter-desk-requires-clause-idle
enter-desk-requires-clause-idle g c = c.requires.ready.idle

pub leave_client-requires-clause-own : goal.leave_client-requires-clause-own
leave_client-requires-clause-own g c = c.enter-desk.ensures.own

pub leave_client-requires-clause-inside : goal.leave_client-requires-clause-inside
leave_client-requires-clause-inside g c = c.enter-desk.ensures.entered.enters.inside

pub leave_client-requires-in-Err-clause-own : goal.leave_client-requires-in-Err-clause-own
leave_client-requires-in-Err-clause-own g c = c.enter-desk.ensures.own

pub leave_client-requires-in-Err-clause-inside : goal.leave_client-requires-in-Err-clause-inside
leave_client-requires-in-Err-clause-inside g c = c.enter-desk.ensures.entered.enters.inside

pub returns-in-Ok-clause-last : goal.returns-in-Ok-clause-last
returns-in-Ok-clause-last g c = c.leave_client.ensures.left.beside.last ∙ c.enter-desk.ensures.entered.beside.last

pub returns-in-Ok-clause-ready : goal.returns-in-Ok-clause-ready
returns-in-Ok-clause-ready g c = turning.ready_after c.args.hall.now c.args.pass.now c.enter-desk.new.pass c.enter-desk.result c.requires.ready c.enter-desk.ensures.entered c.leave_client.new.pass (steps_of c.one.result) c.leave_client.ensures.left

pub returns-in-Err-clause-last : goal.returns-in-Err-clause-last
returns-in-Err-clause-last g c = c.leave_client-in-Err.ensures.left.beside.last ∙ c.enter-desk.ensures.entered.beside.last

pub returns-in-Err-clause-ready : goal.returns-in-Err-clause-ready
returns-in-Err-clause-ready g c = turning.ready_after c.args.hall.now c.args.pass.now c.enter-desk.new.pass c.enter-desk.result c.requires.ready c.enter-desk.ensures.entered c.leave_client-in-Err.new.pass (steps_of c.no_call.result) c.leave_client-in-Err.ensures.left
