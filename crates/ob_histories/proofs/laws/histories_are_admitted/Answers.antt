use Rattle.ob_histories.proofs.Admitting as laws
use Rattle.ob_histories.proofs.laws.histories_are_admitted.Goals as goal

pub returns : goal.returns
returns c = laws.admitted
