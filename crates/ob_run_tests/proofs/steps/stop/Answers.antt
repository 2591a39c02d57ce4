use Rattle.ob_runner.specs.RunnerViews.{runner_state}
use Rattle.ob_run_tests.proofs.Serving.{served_stop}
use Rattle.ob_run_tests.proofs.steps.stop.Goals as goal

pub returns : goal.returns
returns c = served_stop (runner_state c.args.runner.now) c.args.desk.now c.stop.new.self c.requires c.stop.ensures
