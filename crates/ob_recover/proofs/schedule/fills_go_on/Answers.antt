use Rattle.ob_recover.proofs.Fills as laws
use Rattle.ob_recover.proofs.schedule.fills_go_on.Goals as goal

pub returns : goal.returns
returns c = laws.fills_go_on
