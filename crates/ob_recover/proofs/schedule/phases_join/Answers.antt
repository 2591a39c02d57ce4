use Rattle.ob_recover.proofs.Telling as laws
use Rattle.ob_recover.proofs.schedule.phases_join.Goals as goal

pub returns : goal.returns
returns c = laws.phases_are_joined
