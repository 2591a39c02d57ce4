use Rattle.ob_session.specs.Steps.{steps_of}
use Rattle.ob_runner.proofs.Steps.{may_get_it, get_in, get_steps, halts_at_work}
use Rattle.ob_runner.specs.RunnerViews.{runner_state}
use Rattle.ob_runner.proofs.runner.ScriptRunner.get.Goals as goal

pub get-requires : goal.get-requires
get-requires c = may_get_it (runner_state c.args.self.now) c.args.desk.now c.args.desk.now c.args.txn.now c.requires.may c.args.read.now c.requires.place c.requires.read

pub returns-in_default : goal.returns-in_default
returns-in_default c = halts_at_work (runner_state c.args.self.now) c.args.desk.now c.get.new.self c.halt.new.desk c.halt.result.0 (steps_of c.halt.result.1) c.args.txn.now c.requires.place c.requires.takes c.in_default.ensures.err c.halt.ensures

pub take_got-stand-requires : goal.take_got-stand-requires
take_got-stand-requires c = get_in (runner_state c.args.self.now) c.args.desk.now c.args.desk.now c.args.txn.now c.requires.may c.args.read.now c.requires.place c.requires.read

pub returns : goal.returns
returns c = get_steps (runner_state c.args.self.now) c.args.desk.now c.get.new.self c.args.txn.now c.requires.may c.args.read.now c.requires.place c.requires.read c.in-Ok.reply c.take_got-stand.result (steps_of c.one.result)
    (runner_state c.take_got-stand.new.self) c.in-Ok.ensures.step c.take_got-stand.ensures.stand c.one.ensures c.take_got-stand.ensures.state
