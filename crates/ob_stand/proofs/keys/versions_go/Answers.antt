use Rattle.ob_stand.proofs.KeyLaws as laws
use Rattle.ob_stand.proofs.keys.versions_go.Goals as goal

pub returns : goal.returns
returns c = laws.versions_go
