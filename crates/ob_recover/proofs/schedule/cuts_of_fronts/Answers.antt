use Rattle.ob_recover.proofs.ShownOpening as laws
use Rattle.ob_recover.proofs.schedule.cuts_of_fronts.Goals as goal

pub returns : goal.returns
returns c = laws.cuts_of_fronts
