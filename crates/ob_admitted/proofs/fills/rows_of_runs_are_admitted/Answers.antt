use Rattle.ob_admitted.proofs.Walks as laws
use Rattle.ob_admitted.proofs.fills.rows_of_runs_are_admitted.Goals as goal

pub returns : goal.returns
returns g c = laws.rows_of_runs (λ x. g.S.Store.disk x)
