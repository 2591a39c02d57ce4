use Rattle.ob_stand.proofs.Laws as laws
use Rattle.ob_stand.proofs.images.sealed_are_opened.Goals as goal

pub returns : goal.returns
returns c = laws.sealed_are_opened
