use Rattle.ob_stand.proofs.Meeting as laws
use Rattle.ob_stand.proofs.values.epochs_are_met.Goals as goal

pub returns : goal.returns
returns c = laws.epochs_are_met
