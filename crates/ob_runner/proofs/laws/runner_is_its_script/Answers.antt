use Rattle.ob_runner.proofs.Scripted.{is_its_script}
use Rattle.ob_runner.proofs.laws.runner_is_its_script.Goals as goal

pub returns : goal.returns
returns c = is_its_script
