use Rattle.ob_stand.proofs.Laws as laws
use Rattle.ob_stand.proofs.images.sampled.Goals as goal

pub returns : goal.returns
returns c = laws.sampled
