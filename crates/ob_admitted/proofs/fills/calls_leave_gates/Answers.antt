use Rattle.ob_serial.specs.VaultKinds.{kind_of}
use Rattle.ob_admitted.proofs.Gating.{calls_gated}
use Rattle.ob_admitted.proofs.fills.calls_leave_gates.Goals as goal

pub returns : goal.returns
returns g c = calls_gated (kind_of g.V.Vault) (λ x. g.S.Store.disk x)
