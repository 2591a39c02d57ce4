use Rattle.ob_admitted.proofs.Rowing as laws
use Rattle.ob_admitted.proofs.fills.rows_are_admitted.Goals as goal

pub returns : goal.returns
returns c = laws.rows_are
