use Rattle.ob_runner.specs.RunnerViews.{runner_state}
use Rattle.ob_run_tests.specs.Served.{IsRunnerServed}
use Rattle.ob_run_tests.proofs.steps.play.Given as goal

abbrev pub invariant-loop-turn : goal.invariant-loop-turn
invariant-loop-turn g l = IsRunnerServed (runner_state l.runner) l.desk
