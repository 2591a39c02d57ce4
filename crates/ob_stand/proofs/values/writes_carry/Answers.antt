use Rattle.ob_stand.proofs.Written as laws
use Rattle.ob_stand.proofs.values.writes_carry.Goals as goal

pub returns : goal.returns
returns c = laws.writes_carry
