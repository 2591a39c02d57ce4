use Rattle.ob_stand.proofs.Laws as laws
use Rattle.ob_stand.proofs.images.open_begins.Goals as goal

pub returns : goal.returns
returns c = laws.open_begins
