use Rattle.ob_vault.proofs.OpeningStages.{openings_come_in_stages}
use Rattle.ob_vault.proofs.lives.openings_come_in_stages.Goals as goal

pub returns : goal.returns
returns g c = openings_come_in_stages (λ x. g.S.Store.disk x) (λ x image left. g.met.S.Store.only_now x image left)
