use Rattle.ob_deniable_runs.proofs.Calling as calling
use Rattle.ob_deniable_runs.proofs.runs.calls_are_deniable.Goals as goal

pub returns : goal.returns
returns g c = λ keys p drawn parts tape runs some given one untied like. calling.calls_are_deniable (λ x. g.S.Store.disk x) keys p drawn parts tape runs some given one untied like
