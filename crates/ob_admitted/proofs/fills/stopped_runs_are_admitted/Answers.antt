use Rattle.ob_admitted.proofs.Along.{stopped_runs}
use Rattle.ob_admitted.proofs.fills.stopped_runs_are_admitted.Goals as goal

pub returns : goal.returns
returns g c = stopped_runs (λ x. g.S.Store.disk x)
