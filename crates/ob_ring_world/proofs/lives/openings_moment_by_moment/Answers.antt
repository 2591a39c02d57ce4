use Rattle.ob_ring_world.proofs.InOpenings.{openings_moment_by_moment}
use Rattle.ob_ring_world.proofs.lives.openings_moment_by_moment.Goals as goal

pub returns : goal.returns
returns g c = openings_moment_by_moment (λ x. g.S.Store.disk x) (λ x image left. g.met.S.Store.only_now x image left)
