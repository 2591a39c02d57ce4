use Rattle.ob_admitted.proofs.Noting as laws
use Rattle.ob_admitted.proofs.fills.stages_leave_as_noted.Goals as goal

pub returns : goal.returns
returns c = laws.stages_noted
