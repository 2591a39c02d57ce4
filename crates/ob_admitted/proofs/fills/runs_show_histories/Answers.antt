use Rattle.ob_admitted.proofs.Wholes as laws
use Rattle.ob_admitted.proofs.fills.runs_show_histories.Goals as goal

pub returns : goal.returns
returns c = laws.runs_show
