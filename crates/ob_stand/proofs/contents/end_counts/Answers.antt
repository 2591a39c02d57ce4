use Rattle.ob_stand.proofs.Counts as laws
use Rattle.ob_stand.proofs.contents.end_counts.Goals as goal

pub returns : goal.returns
returns c = laws.end_counts
