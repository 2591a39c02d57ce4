use Rattle.ob_session.specs.Steps.{steps_of}
use Rattle.ob_runner.proofs.Turns.{may_begin_it, begin_halts, begin_steps}
use Rattle.ob_runner.specs.RunnerViews.{runner_state}
use Rattle.ob_runner.proofs.runner.ScriptRunner.begin.Goals as goal

pub begin-requires : goal.begin-requires
begin-requires c = may_begin_it (runner_state c.args.self.now) c.args.desk.now c.args.desk.now c.requires.may c.requires.place c.requires.more

pub returns-in_default : goal.returns-in_default
returns-in_default c = begin_halts (runner_state c.args.self.now) c.args.desk.now c.args.desk.now c.requires.may c.requires.place c.requires.more c.begin.new.self c.halt.new.desk c.halt.result.0 (steps_of c.halt.result.1) c.in_default.ensures.err c.halt.ensures

pub returns : goal.returns
returns c = begin_steps (runner_state c.args.self.now) c.args.desk.now c.begin.new.self c.requires.may c.requires.place c.requires.more c.in-Ok.reply (steps_of c.one.result) (runner_state c.take_begun.new.self) c.in-Ok.ensures.step c.one.ensures c.take_begun.ensures
