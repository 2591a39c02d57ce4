use Rattle.ob_stand.proofs.Laws as laws
use Rattle.ob_stand.proofs.images.formats_exist.Goals as goal

pub returns : goal.returns
returns c = laws.formats_exist
