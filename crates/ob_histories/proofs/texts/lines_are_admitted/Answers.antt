use Rattle.ob_histories.proofs.Written as laws
use Rattle.ob_histories.proofs.texts.lines_are_admitted.Goals as goal

pub returns : goal.returns
returns c = laws.lines_are
