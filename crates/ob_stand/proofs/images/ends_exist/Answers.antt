use Rattle.ob_stand.proofs.Laws as laws
use Rattle.ob_stand.proofs.images.ends_exist.Goals as goal

pub returns : goal.returns
returns c = laws.ends_exist
