use Rattle.ob_stand.proofs.Laws as laws
use Rattle.ob_stand.proofs.images.append_stands.Goals as goal

pub returns : goal.returns
returns c = laws.append_stands
