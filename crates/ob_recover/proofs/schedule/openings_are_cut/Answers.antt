use Rattle.ob_recover.proofs.Telling as laws
use Rattle.ob_recover.proofs.schedule.openings_are_cut.Goals as goal

pub returns : goal.returns
returns c = laws.openings_are_cut
