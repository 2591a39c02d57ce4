use Rattle.ob_session.specs.Steps.{steps_of}
use Rattle.std.proofs.Common.{Some}
use Rattle.ob_runner.proofs.Steps.{may_write_it, write_in, write_steps, halts_at_work}
use Rattle.ob_runner.specs.RunnerViews.{runner_state}
use Rattle.ob_runner.proofs.runner.ScriptRunner.put.Goals as goal

pub put-requires : goal.put-requires
put-requires c = may_write_it (runner_state c.args.self.now) c.args.desk.now c.args.desk.now c.args.txn.now c.requires.may c.args.key (Some c.args.value.now) c.args.next c.requires.place c.requires.key c.requires.put

pub returns-in_default : goal.returns-in_default
returns-in_default c = halts_at_work (runner_state c.args.self.now) c.args.desk.now c.put.new.self c.halt.new.desk c.halt.result.0 (steps_of c.halt.result.1) c.args.txn.now c.requires.place c.requires.takes c.in_default.ensures.err c.halt.ensures

pub take_done-requires : goal.take_done-requires
take_done-requires c = write_in (runner_state c.args.self.now) c.args.desk.now c.args.desk.now c.args.txn.now c.requires.may c.args.key (Some c.args.value.now) c.args.next c.requires.place c.requires.key c.requires.put

pub returns : goal.returns
returns c = write_steps (runner_state c.args.self.now) c.args.desk.now c.put.new.self c.args.txn.now c.requires.may c.args.key (Some c.args.value.now) c.args.next c.requires.place c.requires.key c.requires.put c.in-Ok.reply (steps_of c.one.result)
    (runner_state c.take_done.new.self) c.in-Ok.ensures.step c.one.ensures c.take_done.ensures
