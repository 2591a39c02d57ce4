use Rattle.ob_stand.proofs.Laws as laws
use Rattle.ob_stand.proofs.images.runs_end.Goals as goal

pub returns : goal.returns
returns c = laws.runs_end
