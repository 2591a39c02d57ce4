use Rattle.ob_serial.specs.VaultKinds.{kind_of}
use Rattle.ob_vault.proofs.CallStages.{calls_come_in_stages}
use Rattle.ob_vault.proofs.runs.calls_come_in_stages.Goals as goal

pub returns : goal.returns
returns g c = calls_come_in_stages (kind_of g.V.Vault) (λ x. g.S.Store.disk x) (λ x t image at left. g.met.S.Store.counts_now x t image at left) (λ x image left. g.met.S.Store.only_now x image left)
