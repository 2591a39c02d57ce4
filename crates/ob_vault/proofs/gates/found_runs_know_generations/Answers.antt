use Rattle.ob_vault.proofs.Registers.{generations_known}
use Rattle.ob_vault.proofs.gates.found_runs_know_generations.Goals as goal

pub returns : goal.returns
returns c = generations_known
