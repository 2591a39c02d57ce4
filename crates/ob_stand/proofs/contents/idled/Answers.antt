use Rattle.ob_stand.proofs.Idling as laws
use Rattle.ob_stand.proofs.contents.idled.Goals as goal

pub returns : goal.returns
returns c = laws.idled
