use Rattle.std.proofs.Common.{ap, arith, ◌∷◌, []}
use Rattle.std.proofs.Common.{None}
use Rattle.ob_desk.specs.declared.calls.Look.{Look}
use Rattle.ob_runner.specs.RunnerViews.{runner_state}
use Rattle.ob_run_tests.proofs.Serving.{served_round}
use Rattle.ob_run_tests.proofs.steps.round.Goals as goal

pub returns : goal.returns
returns c = served_round (runner_state c.args.runner.now) c.args.desk.now c.take_batch.new.self c.deliver.new.self c.take_batch.new.out (c.args.value ∷ None ∷ []) c.requires
    (omega (arith, ap (λ (k : Look). k.left) c.look.ensures.0)) c.take_batch.ensures (omega arith) c.deliver.ensures
