use Rattle.ob_stand.proofs.Refilling as laws
use Rattle.ob_stand.proofs.values.refill_carries.Goals as goal

pub returns : goal.returns
returns c = laws.refill_carries
