use Rattle.std.proofs.Common.{◌∙◌}
use Rattle.ob_serial.specs.declared.records.Outcome.TheVariants.{Aborted as AbortedBy}
use Rattle.ob_hall.specs.Calling.{TellsCalls}
use Rattle.ob_calls.specs.Waiting.{CommitSays}
use Rattle.ob_hall.proofs.Turning.{is_in, of_any}
use Rattle.ob_calls.proofs.Asking.{begins_ending, ends_on, has_ended, ended_between, aborted_between, was_aborted}
use Rattle.ob_calls.proofs.waits.commit.Goals as goal

pub returns-in-Aborted-clause-stands : goal.returns-in-Aborted-clause-stands
returns-in-Aborted-clause-stands g c =
    aborted_between c.args.hall.now c.args.pass.now c.ask_to_commit.new.pass c.in-Some.txn c.in-Aborted.why (is_in c.args.pass.now c.in-Some.txn c.in-Some.is c.requires.inside) c.in-Aborted.ensures.one_history

pub loop-init : goal.loop-init
loop-init g c =
    begins_ending c.args.hall.now c.args.pass.now c.ask_to_commit.new.pass c.in-Some.txn (is_in c.args.pass.now c.in-Some.txn c.in-Some.is c.requires.inside) c.in-Yes.ensures.one_history c.in-Yes.ensures.last c.in-Yes.ensures.ready

pub returns-in-Some-ask_for_end-clause-one_history : goal.returns-in-Some-ask_for_end-clause-one_history
returns-in-Some-ask_for_end-clause-one_history g c =
    of_any c.args.pass.now c.in-Some.txn (λ x. TellsCalls c.args.hall.now c.args.pass.now c.ask_for_end.new.pass (CommitSays x c.in-Some-ask_for_end.outcome)) c.in-Some.is
    (has_ended c.args.hall.now c.args.pass.now c.loop.pass c.ask_for_end.new.pass c.in-Some.txn c.in-Some-ask_for_end.outcome c.loop.invariant c.in-Some-ask_for_end.ensures.one_history)

pub returns-in-Some-ask_for_end-clause-stands : goal.returns-in-Some-ask_for_end-clause-stands
returns-in-Some-ask_for_end-clause-stands g c =
    ended_between c.args.hall.now c.args.pass.now c.loop.pass c.ask_for_end.new.pass c.in-Some.txn c.in-Some-ask_for_end.outcome c.loop.invariant c.in-Some-ask_for_end.ensures.one_history

pub loop-preserved : goal.loop-preserved
loop-preserved g c =
    ends_on c.args.hall.now c.args.pass.now c.loop.pass c.ask_for_end.new.pass c.in-Some.txn c.loop.invariant c.in-None-ask_for_end.ensures.one_history c.in-None-ask_for_end.ensures.last c.in-None-ask_for_end.ensures.ready

pub ask_to_commit-requires-clause-ready : goal.ask_to_commit-requires-clause-ready
ask_to_commit-requires-clause-ready g c = c.requires.ready

pub ask_to_commit-requires-clause-inside : goal.ask_to_commit-requires-clause-inside
ask_to_commit-requires-clause-inside g c = is_in c.args.pass.now c.in-Some.txn c.in-Some.is c.requires.inside

pub returns-in-Aborted-clause-one_history : goal.returns-in-Aborted-clause-one_history
returns-in-Aborted-clause-one_history g c =
    of_any c.args.pass.now c.in-Some.txn (λ x. TellsCalls c.args.hall.now c.args.pass.now c.ask_to_commit.new.pass (CommitSays x (AbortedBy c.in-Aborted.why))) c.in-Some.is
    (was_aborted c.args.hall.now c.args.pass.now c.ask_to_commit.new.pass c.in-Some.txn c.in-Aborted.why c.in-Aborted.ensures.one_history)

pub returns-in-Aborted-clause-last : goal.returns-in-Aborted-clause-last
returns-in-Aborted-clause-last g c = c.in-Aborted.ensures.last

pub returns-in-Aborted-clause-ready : goal.returns-in-Aborted-clause-ready
returns-in-Aborted-clause-ready g c = c.in-Aborted.ensures.ready

pub ask_for_end-requires-clause-ready : goal.ask_for_end-requires-clause-ready
ask_for_end-requires-clause-ready g c = c.loop.invariant.ready

pub ask_for_end-requires-clause-begun : goal.ask_for_end-requires-clause-begun
ask_for_end-requires-clause-begun g c = c.loop.invariant.begun

pub returns-in-Some-ask_for_end-clause-last : goal.returns-in-Some-ask_for_end-clause-last
returns-in-Some-ask_for_end-clause-last g c = c.in-Some-ask_for_end.ensures.last ∙ c.loop.invariant.last

pub returns-in-Some-ask_for_end-clause-ready : goal.returns-in-Some-ask_for_end-clause-ready
returns-in-Some-ask_for_end-clause-ready g c = c.in-Some-ask_for_end.ensures.ready
