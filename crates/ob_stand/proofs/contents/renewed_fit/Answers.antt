use Rattle.ob_stand.proofs.Numbers as laws
use Rattle.ob_stand.proofs.contents.renewed_fit.Goals as goal

pub returns : goal.returns
returns c = laws.renewed_fit
