use Rattle.ob_session.specs.Steps.{steps_of}
use Rattle.ob_runner.specs.RunnerViews.{runner_state}
use Rattle.ob_run_tests.proofs.Serving.{served_agrees, served_step}
use Rattle.ob_run_tests.proofs.steps.step.Goals as goal

pub step-requires-clause-agrees : goal.step-requires-clause-agrees
step-requires-clause-agrees c = served_agrees (runner_state c.args.runner.now) c.args.desk.now c.requires

pub returns : goal.returns
returns c = served_step (runner_state c.args.runner.now) (runner_state c.step.new.self) c.args.desk.now c.step.new.desk (steps_of c.step.result.1) c.requires
    c.step.ensures.client c.step.ensures.bound c.step.ensures.made c.step.ensures.own c.step.ensures.fits
