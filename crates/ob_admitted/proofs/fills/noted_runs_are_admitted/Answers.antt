use Rattle.ob_admitted.proofs.Walks.{noted_runs}
use Rattle.ob_admitted.proofs.fills.noted_runs_are_admitted.Goals as goal

pub returns : goal.returns
returns g c = noted_runs (λ x. g.S.Store.disk x)
