use Rattle.ob_vault.proofs.Refusing.{ring_refuses}
use Rattle.ob_vault.proofs.ring.refusals_are_told.Goals as goal

pub returns : goal.returns
returns g c = ring_refuses _ (λ store. g.S.Store.disk store)
