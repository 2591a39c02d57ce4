use Rattle.ob_vault.proofs.Registers.{refused_gated}
use Rattle.ob_vault.proofs.gates.refused_calls_leave_gates.Goals as goal

pub returns : goal.returns
returns g c = λ old new notes call answer known s at called refused content rs from image left. refused_gated (λ x. g.S.Store.disk x) old new notes call answer known s at called refused content rs from image left
