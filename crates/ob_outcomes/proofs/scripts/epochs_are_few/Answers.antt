use Rattle.ob_outcomes.proofs.Counting.{epochs_are_few}
use Rattle.ob_outcomes.proofs.scripts.epochs_are_few.Goals as goal

pub returns : goal.returns
returns c = epochs_are_few
