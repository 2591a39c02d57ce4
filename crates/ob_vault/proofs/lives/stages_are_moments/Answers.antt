use Rattle.ob_vault.proofs.Moments.{moments}
use Rattle.ob_vault.proofs.lives.stages_are_moments.Goals as goal

pub returns : goal.returns
returns g c = λ word_of s old new notes call answered runs staged. moments (λ x. g.S.Store.disk x) word_of s old new notes runs call answered staged
