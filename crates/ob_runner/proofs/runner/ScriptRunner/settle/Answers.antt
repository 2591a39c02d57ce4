use Rattle.ob_session.specs.Steps.{steps_of}
use Rattle.ob_runner.proofs.Steps.{may_settle_it, settle_in, wait_steps, settle_steps}
use Rattle.ob_runner.specs.RunnerViews.{runner_state}
use Rattle.ob_runner.proofs.runner.ScriptRunner.settle.Goals as goal

pub settled-outcome-requires : goal.settled-outcome-requires
settled-outcome-requires c = may_settle_it (runner_state c.args.self.now) c.args.desk.now c.args.desk.now c.args.txn.now c.requires.may c.requires.place

pub returns-then-is_none : goal.returns-then-is_none
returns-then-is_none c = wait_steps (runner_state c.args.self.now) c.args.desk.now c.args.desk.now c.args.txn.now c.requires.may c.requires.place c.settled-outcome.result (steps_of c.one-made.result) c.settled-outcome.ensures c.if-is_none.ensures c.one-made.ensures

pub finish-requires : goal.finish-requires
finish-requires c = settle_in (runner_state c.args.self.now) c.args.desk.now c.args.desk.now c.args.txn.now c.requires.may c.requires.place

pub returns : goal.returns
returns c = settle_steps (runner_state c.args.self.now) c.args.desk.now c.args.desk.now c.args.txn.now c.requires.may c.requires.place c.settled-outcome.result (steps_of c.one-made.result) (runner_state c.finish.new.self) c.settled-outcome.ensures
    c.if-is_none.ensures c.one-made.ensures c.finish.ensures
