use Rattle.ob_stand.proofs.Planned as laws
use Rattle.ob_stand.proofs.values.refill_is_written.Goals as goal

pub returns : goal.returns
returns c = laws.refill_is_written
