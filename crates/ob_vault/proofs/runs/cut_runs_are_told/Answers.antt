use Rattle.ob_vault.proofs.Staging.{cut_runs_are_told}
use Rattle.ob_vault.proofs.runs.cut_runs_are_told.Goals as goal

pub returns : goal.returns
returns g c = cut_runs_are_told (λ x. g.S.Store.disk x) (λ x t image at left. g.met.S.Store.counts_now x t image at left) (λ x image left. g.met.S.Store.only_now x image left)
