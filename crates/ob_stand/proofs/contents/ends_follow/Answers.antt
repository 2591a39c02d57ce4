use Rattle.ob_stand.proofs.Ending as laws
use Rattle.ob_stand.proofs.contents.ends_follow.Goals as goal

pub returns : goal.returns
returns c = laws.ends_follow
