use Rattle.ob_deniable_runs.proofs.Denied as denied
use Rattle.ob_deniable_runs.proofs.runs.runs_are_deniable.Goals as goal

pub returns : goal.returns
returns g c = λ keys p drawn parts tape other some given one untied sh puts. denied.runs_are_deniable (λ x. g.S.Store.disk x) keys p drawn parts tape other some given one untied sh puts
