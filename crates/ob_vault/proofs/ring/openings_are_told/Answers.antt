use Rattle.ob_vault.proofs.Opening.{ring_leaves_standing, ring_opens, ring_opens_at, ring_opens_standing}
use Rattle.ob_vault.proofs.ring.openings_are_told.Goals as goal

pub returns-clause-opens : goal.returns-clause-opens
returns-clause-opens g c = ring_opens _ (λ store. g.S.Store.disk store)

pub returns-clause-stands : goal.returns-clause-stands
returns-clause-stands g c = ring_opens_at _ (λ store. g.S.Store.disk store)

pub returns-clause-since : goal.returns-clause-since
returns-clause-since g c = ring_opens_standing (λ store. g.S.Store.disk store)

pub returns-clause-leaves : goal.returns-clause-leaves
returns-clause-leaves g c = ring_leaves_standing (λ store. g.S.Store.disk store)
