use Rattle.ob_admitted.proofs.Openings as laws
use Rattle.ob_admitted.proofs.fills.openings_are_runs.Goals as goal

pub returns : goal.returns
returns c = laws.openings_are
