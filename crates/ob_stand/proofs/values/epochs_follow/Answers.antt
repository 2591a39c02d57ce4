use Rattle.ob_stand.proofs.Epochs as laws
use Rattle.ob_stand.proofs.values.epochs_follow.Goals as goal

pub returns : goal.returns
returns c = laws.epochs_follow
