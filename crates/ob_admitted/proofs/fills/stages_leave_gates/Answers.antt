use Rattle.ob_serial.specs.VaultKinds.{kind_of}
use Rattle.ob_admitted.proofs.Gating.{stages_gated}
use Rattle.ob_admitted.proofs.fills.stages_leave_gates.Goals as goal

pub returns : goal.returns
returns g c = stages_gated (kind_of g.V.Vault) (λ x. g.S.Store.disk x)
