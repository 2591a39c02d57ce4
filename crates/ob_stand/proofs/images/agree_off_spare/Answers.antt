use Rattle.ob_stand.proofs.Laws as laws
use Rattle.ob_stand.proofs.images.agree_off_spare.Goals as goal

pub returns : goal.returns
returns c = laws.agree_off_spare
