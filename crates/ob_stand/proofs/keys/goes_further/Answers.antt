use Rattle.ob_stand.proofs.KeyLaws as laws
use Rattle.ob_stand.proofs.keys.goes_further.Goals as goal

pub returns : goal.returns
returns c = laws.goes_further
