use Rattle.ob_admitted.proofs.Living as laws
use Rattle.ob_admitted.proofs.fills.lives_have_fills.Goals as goal

pub returns : goal.returns
returns c = laws.lives_are_filled
