use Rattle.ob_hall.proofs.Staying.{closed_stays}
use Rattle.ob_hall.proofs.laws.closed_epochs_stay.Goals as goal

pub returns : goal.returns
returns c = λ opened d history due new led is. closed_stays opened d history due new led is
