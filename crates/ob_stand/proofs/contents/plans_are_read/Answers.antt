use Rattle.ob_stand.proofs.Calling as laws
use Rattle.ob_stand.proofs.contents.plans_are_read.Goals as goal

pub returns : goal.returns
returns c = laws.plans_are_read
