use Rattle.ob_serial.specs.VaultKinds.{kind_of}
use Rattle.ob_conduct.specs.Scenes.{runner_kind}
use Rattle.ob_world.proofs.Running.{runs_are_worlds, runs_end_whole}
use Rattle.ob_world.proofs.lists.runs_are_worlds.Goals as goal

pub returns : goal.returns
returns g c = record {
  runs = runs_are_worlds (kind_of g.V.Vault) (runner_kind g.U.Runner.client g.U.Runner.bound g.U.Runner.plan g.U.Runner.fits g.U.Runner.turn);
  whole = runs_end_whole (kind_of g.V.Vault) (runner_kind g.U.Runner.client g.U.Runner.bound g.U.Runner.plan g.U.Runner.fits g.U.Runner.turn);
}
