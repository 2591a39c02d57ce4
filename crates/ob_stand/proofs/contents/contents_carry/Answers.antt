use Rattle.ob_stand.proofs.Standing as laws
use Rattle.ob_stand.proofs.contents.contents_carry.Goals as goal

pub returns : goal.returns
returns c = laws.contents_carry
