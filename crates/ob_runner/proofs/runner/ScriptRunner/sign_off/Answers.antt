use Rattle.std.proofs.Common.{refl}
use Rattle.ob_session.specs.Steps.{steps_of}
use Rattle.ob_runner.proofs.Turns.{may_sign_off_it, sign_off_steps}
use Rattle.ob_runner.specs.RunnerViews.{runner_state}
use Rattle.ob_runner.proofs.runner.ScriptRunner.sign_off.Goals as goal

pub sign_off-requires : goal.sign_off-requires
sign_off-requires c = may_sign_off_it (runner_state c.args.self.now) c.args.desk.now c.args.desk.now c.requires.may c.requires.done

pub returns : goal.returns
returns c = sign_off_steps (runner_state c.args.self.now) c.args.desk.now c.sign_off.new.self c.requires.may c.requires.done (steps_of c.one.result) _ c.sign_off.ensures c.one.ensures refl
