use Rattle.ob_admitted.proofs.Walks.{gated_runs}
use Rattle.ob_admitted.proofs.fills.gated_runs_are_admitted.Goals as goal

pub returns : goal.returns
returns g c = gated_runs (λ x. g.S.Store.disk x)
