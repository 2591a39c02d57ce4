use Rattle.ob_top.proofs.Refusing.{refused_runs_fit}
use Rattle.ob_top.proofs.refusals.refused_runs_fit.Goals as goal

pub returns : goal.returns
returns g c = refused_runs_fit (λ x. g.S.Store.disk x)
