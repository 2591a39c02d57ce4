use Rattle.ob_serial.specs.VaultKinds.{kind_of}
use Rattle.ob_admitted.proofs.Noting.{calls_noted}
use Rattle.ob_admitted.proofs.fills.calls_leave_as_noted.Goals as goal

pub returns : goal.returns
returns g c = calls_noted (kind_of g.V.Vault) (λ x. g.S.Store.disk x) (λ x t image left. g.met.S.Store.counts_now x t image left) (λ x image left. g.met.S.Store.only_now x image left)
