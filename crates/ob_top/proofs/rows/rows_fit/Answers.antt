use Rattle.ob_top.proofs.Rowing.{rows_fit}
use Rattle.ob_top.proofs.rows.rows_fit.Goals as goal

pub returns : goal.returns
returns g c = rows_fit (λ x. g.S.Store.disk x)
