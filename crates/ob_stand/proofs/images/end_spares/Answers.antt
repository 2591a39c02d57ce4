use Rattle.ob_stand.proofs.Laws as laws
use Rattle.ob_stand.proofs.images.end_spares.Goals as goal

pub returns : goal.returns
returns c = laws.end_spares
