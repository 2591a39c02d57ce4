use Rattle.ob_check.proofs.BackLaws as laws
use Rattle.ob_check.proofs.laws.reads_back.Goals as goal

pub returns : goal.returns
returns c = laws.reads_back
