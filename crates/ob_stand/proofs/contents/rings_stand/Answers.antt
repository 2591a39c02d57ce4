use Rattle.ob_stand.proofs.Reading as laws
use Rattle.ob_stand.proofs.contents.rings_stand.Goals as goal

pub returns : goal.returns
returns c = laws.rings_stand
