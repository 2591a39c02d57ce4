use Rattle.ob_histories.proofs.Labels as laws
use Rattle.ob_histories.proofs.laws.labels_are_leaves.Goals as goal

pub returns : goal.returns
returns c = laws.labels_are
