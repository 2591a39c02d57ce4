use Rattle.ob_stand.proofs.Counts as laws
use Rattle.ob_stand.proofs.contents.opening_counts.Goals as goal

pub returns : goal.returns
returns c = laws.opening_counts
