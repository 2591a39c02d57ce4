use Rattle.ob_stand.proofs.Steps as laws
use Rattle.ob_stand.proofs.values.lifts_carry.Goals as goal

pub returns : goal.returns
returns c = laws.lifts_carry
