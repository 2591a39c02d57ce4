use Rattle.ob_stand.proofs.Laws as laws
use Rattle.ob_stand.proofs.images.formatted_stands.Goals as goal

pub returns : goal.returns
returns c = laws.formatted_stands
