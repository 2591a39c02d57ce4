use Rattle.ob_admitted.proofs.Fronts as laws
use Rattle.ob_admitted.proofs.fills.fronts_are_runs.Goals as goal

pub returns : goal.returns
returns c = laws.fronts_are
