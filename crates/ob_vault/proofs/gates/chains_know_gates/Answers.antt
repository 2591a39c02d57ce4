use Rattle.ob_serial.specs.VaultKinds.{kind_of}
use Rattle.ob_vault.proofs.Registers.{chains_known}
use Rattle.ob_vault.proofs.gates.chains_know_gates.Goals as goal

pub returns : goal.returns
returns g c = chains_known (kind_of g.V.Vault) (λ x. g.S.Store.disk x)
