use Rattle.ob_admitted.proofs.Betweens as laws
use Rattle.ob_admitted.proofs.fills.runs_leave_histories.Goals as goal

pub returns : goal.returns
returns c = laws.runs_leave
