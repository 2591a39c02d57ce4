use Rattle.ob_stand.proofs.Laws as laws
use Rattle.ob_stand.proofs.images.frame_with.Goals as goal

pub returns : goal.returns
returns c = laws.frame_with
