use Rattle.ob_histories.proofs.FrontsRuns as laws
use Rattle.ob_histories.proofs.laws.filled_are_histories.Goals as goal

pub returns : goal.returns
returns c = laws.filled_are_all
