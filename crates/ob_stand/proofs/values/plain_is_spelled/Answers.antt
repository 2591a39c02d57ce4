use Rattle.ob_stand.proofs.Refilling as laws
use Rattle.ob_stand.proofs.values.plain_is_spelled.Goals as goal

pub returns : goal.returns
returns c = laws.plains_are_spelled
