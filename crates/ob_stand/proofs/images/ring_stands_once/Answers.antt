use Rattle.ob_stand.proofs.Laws as laws
use Rattle.ob_stand.proofs.images.ring_stands_once.Goals as goal

pub returns : goal.returns
returns c = laws.ring_stands_once
