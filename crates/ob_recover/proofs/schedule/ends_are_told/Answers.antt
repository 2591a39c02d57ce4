use Rattle.ob_recover.proofs.Telling as laws
use Rattle.ob_recover.proofs.schedule.ends_are_told.Goals as goal

pub returns : goal.returns
returns c = laws.ends_are_told
