use Rattle.ob_vault.proofs.Calls.{call_lives}
use Rattle.ob_vault.proofs.lives.calls_are_lives.Goals as goal

pub returns : goal.returns
returns g c = λ word_of s old new notes call answer runs tape called. call_lives (λ x. g.S.Store.disk x) word_of s old new notes (λ t image at left. g.met.S.Store.counts_now new.store t image at left) (λ image left. g.met.S.Store.only_now old.store image left) call answer runs tape called
