use Rattle.ob_stand.proofs.Steps as laws
use Rattle.ob_stand.proofs.values.batch_carries.Goals as goal

pub returns : goal.returns
returns c = laws.batch_carries
