use Rattle.ob_vault.proofs.Registers.{calls_known}
use Rattle.ob_vault.proofs.gates.calls_know_gates.Goals as goal

pub returns : goal.returns
returns g c = λ old new notes call answer known called answered. calls_known (λ x. g.S.Store.disk x) old new notes call answer known called answered
