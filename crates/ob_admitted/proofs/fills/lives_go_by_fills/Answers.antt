use Rattle.ob_admitted.proofs.Publics as laws
use Rattle.ob_admitted.proofs.fills.lives_go_by_fills.Goals as goal

pub returns : goal.returns
returns c = laws.lives_go
