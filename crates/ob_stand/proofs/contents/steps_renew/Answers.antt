use Rattle.ob_stand.proofs.Numbers as laws
use Rattle.ob_stand.proofs.contents.steps_renew.Goals as goal

pub returns : goal.returns
returns c = laws.steps_renew
