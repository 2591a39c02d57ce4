use Rattle.ob_vault.proofs.Formatting.{ring_formats}
use Rattle.ob_vault.proofs.ring.formats_are_told.Goals as goal

pub returns : goal.returns
returns g c = ring_formats (λ store. g.S.Store.disk store)
