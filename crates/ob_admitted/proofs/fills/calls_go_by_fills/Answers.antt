use Rattle.ob_admitted.proofs.Notes as laws
use Rattle.ob_admitted.proofs.fills.calls_go_by_fills.Goals as goal

pub returns : goal.returns
returns c = laws.calls_go
