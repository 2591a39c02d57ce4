use Rattle.ob_stand.proofs.Counts as laws
use Rattle.ob_stand.proofs.contents.slots_rank.Goals as goal

pub returns : goal.returns
returns c = laws.slots_rank
