use Rattle.ob_admitted.proofs.Stopping as laws
use Rattle.ob_admitted.proofs.fills.openings_leave_histories.Goals as goal

pub returns : goal.returns
returns c = laws.openings_leave
