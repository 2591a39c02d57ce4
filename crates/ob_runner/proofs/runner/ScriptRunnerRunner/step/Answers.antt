use Rattle.ob_runner.proofs.Steps.{one_call}
use Rattle.ob_runner.proofs.runner.ScriptRunnerRunner.step.Goals as goal

pub returns-clause-one : goal.returns-clause-one
returns-clause-one c = λ said fits. one_call c.args.self.now.place said _ c.call.ensures.one fits.signed_off
