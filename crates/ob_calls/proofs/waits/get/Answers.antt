use Rattle.std.proofs.Common.{List, ℕ, Option, Err}
use Rattle.ob_calls.specs.declared.calls.Refused.TheVariants as refused
use Rattle.ob_hall.specs.Calling.{TellsCalls}
use Rattle.ob_calls.specs.Saying.{StaysIn}
use Rattle.ob_calls.specs.Waiting.{GetSays}
use Rattle.ob_hall.proofs.Turning.{is_in, of_any}
use Rattle.ob_calls.proofs.Asking.{begins_asking, still_waits, asks_on, ends_asking, get_stands, get_failed, gets_none}
use Rattle.ob_calls.proofs.waits.get.Goals as goal

pub ask-requires-clause-inside : goal.ask-requires-clause-inside
ask-requires-clause-inside g c = is_in c.args.pass.now c.in-Some.txn c.in-Some.is c.requires.inside

pub loop-init : goal.loop-init
loop-init g c =
    begins_asking c.args.hall.now c.args.pass.now c.ask.new.pass c.in-Some.txn c.args.key c.in-Ok.reply (is_in c.args.pass.now c.in-Some.txn c.in-Some.is c.requires.inside) c.in-Ok.ensures.one_history c.in-Ok.ensures.stands c.in-Ok.ensures.last c.in-Ok.ensures.ready

pub ask_again-reply-requires-clause-waiting : goal.ask_again-reply-requires-clause-waiting
ask_again-reply-requires-clause-waiting g c = still_waits c.args.hall.now c.args.pass.now c.loop.pass c.in-Some.txn c.args.key c.loop.reply c.loop.invariant c.in-None-end_of.ensures

pub loop-preserved : goal.loop-preserved
loop-preserved g c =
    asks_on c.args.hall.now c.args.pass.now c.loop.pass c.ask_again-reply.new.pass c.in-Some.txn c.args.key c.loop.reply c.ask_again-reply.result c.in-None-end_of.ensures c.loop.invariant c.ask_again-reply.ensures.one_history c.ask_again-reply.ensures.last
    c.ask_again-reply.ensures.ready

pub returns-in-Some-end_of-clause-one_history : goal.returns-in-Some-end_of-clause-one_history
returns-in-Some-end_of-clause-one_history g c =
    of_any c.args.pass.now c.in-Some.txn (λ x. TellsCalls c.args.hall.now c.args.pass.now c.loop.pass (GetSays x c.args.key c.in-Some-end_of.answer)) c.in-Some.is
    (ends_asking c.args.hall.now c.args.pass.now c.loop.pass c.in-Some.txn c.args.key c.loop.reply c.in-Some-end_of.answer c.loop.invariant c.in-Some-end_of.ensures)

pub returns-in-Some-end_of-clause-stands : goal.returns-in-Some-end_of-clause-stands
returns-in-Some-end_of-clause-stands g c =
    of_any c.args.pass.now c.in-Some.txn (λ x. StaysIn c.in-Some-end_of.answer c.args.pass.now c.loop.pass x) c.in-Some.is
    (get_stands c.args.hall.now c.args.pass.now c.loop.pass c.in-Some.txn c.args.key c.loop.reply c.in-Some-end_of.answer c.loop.invariant c.in-Some-end_of.ensures)

pub ask-requires-clause-ready : goal.ask-requires-clause-ready
ask-requires-clause-ready g c = c.requires.ready

pub ask-requires-clause-key : goal.ask-requires-clause-key
ask-requires-clause-key g c = c.requires.key

pub returns-in-Err-clause-one_history : goal.returns-in-Err-clause-one_history
returns-in-Err-clause-one_history g c =
    of_any c.args.pass.now c.in-Some.txn (λ x. TellsCalls c.args.hall.now c.args.pass.now c.ask.new.pass (GetSays x c.args.key (Err refused.Memory))) c.in-Some.is
    (gets_none c.args.hall.now c.args.pass.now c.ask.new.pass c.in-Some.txn c.args.key _ c.in-Err.ensures.one_history)

pub returns-in-Err-clause-last : goal.returns-in-Err-clause-last
returns-in-Err-clause-last g c = c.in-Err.ensures.last

pub returns-in-Err-clause-stands : goal.returns-in-Err-clause-stands
returns-in-Err-clause-stands g c =
    of_any c.args.pass.now c.in-Some.txn (λ x. StaysIn {A = Option (List ℕ)} (Err refused.Memory) c.args.pass.now c.ask.new.pass x) c.in-Some.is
    (get_failed c.args.hall.now c.args.pass.now c.ask.new.pass c.in-Some.txn c.args.key _ (is_in c.args.pass.now c.in-Some.txn c.in-Some.is c.requires.inside) c.in-Err.ensures.one_history c.in-Err.ensures.last)

pub returns-in-Err-clause-ready : goal.returns-in-Err-clause-ready
returns-in-Err-clause-ready g c = c.in-Err.ensures.ready

pub returns-in-Some-end_of-clause-last : goal.returns-in-Some-end_of-clause-last
returns-in-Some-end_of-clause-last g c = c.loop.invariant.last

pub returns-in-Some-end_of-clause-ready : goal.returns-in-Some-end_of-clause-ready
returns-in-Some-end_of-clause-ready g c = c.loop.invariant.ready

pub ask_again-reply-requires-clause-ready : goal.ask_again-reply-requires-clause-ready
ask_again-reply-requires-clause-ready g c = c.loop.invariant.ready
