use Rattle.ob_stand.proofs.Laws as laws
use Rattle.ob_stand.proofs.images.stands_known.Goals as goal

pub returns : goal.returns
returns c = laws.stands_known
