use Rattle.ob_histories.proofs.SlotsLines as laws
use Rattle.ob_histories.proofs.laws.admitted_are_histories.Goals as goal

pub returns : goal.returns
returns c = laws.admitted_are
