use Rattle.ob_admitted.proofs.Cutting as laws
use Rattle.ob_admitted.proofs.fills.cut_openings_show_histories.Goals as goal

pub returns : goal.returns
returns c = laws.cut_openings_show
