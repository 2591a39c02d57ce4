use Rattle.ob_stand.proofs.Counted as laws
use Rattle.ob_stand.proofs.values.stash_counts.Goals as goal

pub returns : goal.returns
returns c = laws.stash_counts
