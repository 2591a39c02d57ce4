use Rattle.ob_stand.proofs.Calling as laws
use Rattle.ob_stand.proofs.contents.rings_refill.Goals as goal

pub returns : goal.returns
returns c = laws.rings_refill
