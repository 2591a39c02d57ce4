use Rattle.ob_stand.proofs.KeyLaws as laws
use Rattle.ob_stand.proofs.keys.refills_move.Goals as goal

pub returns : goal.returns
returns c = laws.refills_move
