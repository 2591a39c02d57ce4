use Rattle.ob_admitted.proofs.Repeating as laws
use Rattle.ob_admitted.proofs.fills.openings_go_by_fills.Goals as goal

pub returns : goal.returns
returns c = laws.openings_go
