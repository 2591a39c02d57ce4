use Rattle.ob_stand.proofs.Calling as laws
use Rattle.ob_stand.proofs.contents.writes_are_fit.Goals as goal

pub returns : goal.returns
returns c = laws.writes_are_fit
