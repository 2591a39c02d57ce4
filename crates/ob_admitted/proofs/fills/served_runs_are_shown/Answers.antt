use Rattle.ob_admitted.proofs.Serving as laws
use Rattle.ob_admitted.proofs.fills.served_runs_are_shown.Goals as goal

pub returns : goal.returns
returns c = laws.served
