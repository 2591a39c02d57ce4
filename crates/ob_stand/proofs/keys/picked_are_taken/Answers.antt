use Rattle.ob_stand.proofs.KeyLaws as laws
use Rattle.ob_stand.proofs.keys.picked_are_taken.Goals as goal

pub returns : goal.returns
returns c = laws.picked_are_taken
