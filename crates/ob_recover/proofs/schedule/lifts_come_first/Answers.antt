use Rattle.ob_recover.proofs.Ending as laws
use Rattle.ob_recover.proofs.schedule.lifts_come_first.Goals as goal

pub returns : goal.returns
returns c = laws.lifts_come_first
