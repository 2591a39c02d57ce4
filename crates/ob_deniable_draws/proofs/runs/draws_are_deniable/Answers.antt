use Rattle.ob_deniable_draws.proofs.RunsWalk as walk
use Rattle.ob_deniable_draws.proofs.runs.draws_are_deniable.Goals as goal

pub returns : goal.returns
returns g c = λ keys p drawn parts tape runs some room given one untied drew like fit. walk.draws_are_deniable (λ x. g.S.Store.disk x) keys p drawn parts tape runs some room given one untied drew like fit
