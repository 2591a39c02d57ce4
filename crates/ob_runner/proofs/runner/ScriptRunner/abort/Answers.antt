use Rattle.ob_session.specs.Steps.{steps_of}
use Rattle.ob_runner.proofs.Steps.{may_abort_it, abort_in, abort_steps}
use Rattle.ob_runner.specs.RunnerViews.{runner_state}
use Rattle.ob_runner.proofs.runner.ScriptRunner.abort.Goals as goal

pub abort-why-requires : goal.abort-why-requires
abort-why-requires c = may_abort_it (runner_state c.args.self.now) c.args.desk.now c.args.desk.now c.args.txn.now c.requires.may c.requires.place c.requires.end

pub finish-requires : goal.finish-requires
finish-requires c = abort_in (runner_state c.args.self.now) c.args.desk.now c.args.desk.now c.args.txn.now c.requires.may c.requires.place c.requires.end

pub returns : goal.returns
returns c = abort_steps (runner_state c.args.self.now) c.args.desk.now c.abort-why.new.self c.args.txn.now c.requires.may c.requires.place c.requires.end c.abort-why.result (steps_of c.one.result) (runner_state c.finish.new.self) c.abort-why.ensures.step c.one.ensures c.finish.ensures
