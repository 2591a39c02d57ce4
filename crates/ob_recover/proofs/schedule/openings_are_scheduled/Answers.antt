use Rattle.ob_recover.proofs.ShownOpening as laws
use Rattle.ob_recover.proofs.schedule.openings_are_scheduled.Goals as goal

pub returns : goal.returns
returns c = laws.openings_are_scheduled
