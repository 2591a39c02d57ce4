use Rattle.ob_stand.proofs.KeyLaws as laws
use Rattle.ob_stand.proofs.keys.steps_only_take.Goals as goal

pub returns : goal.returns
returns c = laws.steps_only_take
