use Rattle.ob_stand.proofs.Laws as laws
use Rattle.ob_stand.proofs.images.writes_agree.Goals as goal

pub returns : goal.returns
returns c = laws.writes_agree
