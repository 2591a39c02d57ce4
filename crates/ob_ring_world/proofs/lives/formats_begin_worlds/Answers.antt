use Rattle.ob_ring_world.proofs.Formatted.{formats_begin_worlds, formats_moment_by_moment}
use Rattle.ob_ring_world.proofs.lives.formats_begin_worlds.Goals as goal

pub returns : goal.returns
returns g c = record { begins = formats_begin_worlds (λ x. g.S.Store.disk x); moments = formats_moment_by_moment (λ x. g.S.Store.disk x) }
