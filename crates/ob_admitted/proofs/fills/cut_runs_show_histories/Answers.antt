use Rattle.ob_admitted.proofs.Cutting as laws
use Rattle.ob_admitted.proofs.fills.cut_runs_show_histories.Goals as goal

pub returns : goal.returns
returns c = laws.cut_runs_show
