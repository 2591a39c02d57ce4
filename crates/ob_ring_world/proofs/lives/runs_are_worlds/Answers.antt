use Rattle.ob_serial.specs.VaultKinds.{kind_of}
use Rattle.ob_ring_world.proofs.AlongEvents.{acts_are_one_run}
use Rattle.ob_ring_world.proofs.AlongRuns.{ring_runs_are_worlds}
use Rattle.ob_ring_world.proofs.lives.runs_are_worlds.Goals as goal

pub returns : goal.returns
returns g c = record { acts = acts_are_one_run; worlds = ring_runs_are_worlds (kind_of g.V.Vault) (λ x. g.S.Store.disk x) (λ x t image left. g.met.S.Store.counts_now x t image left) (λ x image left. g.met.S.Store.only_now x image left) }
