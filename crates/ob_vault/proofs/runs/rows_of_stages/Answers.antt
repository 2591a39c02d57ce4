use Rattle.ob_vault.proofs.Spanning.{rows_of_stages}
use Rattle.ob_vault.proofs.runs.rows_of_stages.Goals as goal

pub returns : goal.returns
returns g c = rows_of_stages (λ x. g.S.Store.disk x) (λ x t image at left. g.met.S.Store.counts_now x t image at left) (λ x image left. g.met.S.Store.only_now x image left)
