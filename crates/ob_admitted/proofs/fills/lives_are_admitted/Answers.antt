use Rattle.ob_admitted.proofs.Lives as laws
use Rattle.ob_admitted.proofs.fills.lives_are_admitted.Goals as goal

pub returns : goal.returns
returns c = laws.lives_are
