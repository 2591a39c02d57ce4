use Rattle.ob_recover.proofs.Ending as laws
use Rattle.ob_recover.proofs.schedule.ends_are_scheduled.Goals as goal

pub returns : goal.returns
returns c = laws.ends_are_scheduled
