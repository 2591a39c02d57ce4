use Rattle.ob_vault.proofs.SealCalls.{is_act}
use Rattle.ob_vault.proofs.acts.calls_are_acts.Goals as goal

pub returns : goal.returns
returns g c = λ old new notes call answer called tells. is_act (λ s. g.S.Store.disk s) old new notes (λ image left. g.met.S.Store.only_now old.store image left) call answer called tells
