use Rattle.ob_deniable_draws.proofs.OnlyFit as fit
use Rattle.ob_deniable_draws.proofs.runs.only_fit_asks_draw.Goals as goal

pub returns : goal.returns
returns c = λ p h behind asks f draws. fit.only_fit p h behind asks f draws
