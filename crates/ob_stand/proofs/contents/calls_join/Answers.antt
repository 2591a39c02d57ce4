use Rattle.ob_stand.proofs.Calling as laws
use Rattle.ob_stand.proofs.contents.calls_join.Goals as goal

pub returns : goal.returns
returns c = laws.calls_join
