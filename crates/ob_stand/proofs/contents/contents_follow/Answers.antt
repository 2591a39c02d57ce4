use Rattle.ob_stand.proofs.Following as laws
use Rattle.ob_stand.proofs.contents.contents_follow.Goals as goal

pub returns : goal.returns
returns c = laws.contents_follow
