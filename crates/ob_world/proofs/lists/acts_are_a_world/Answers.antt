use Rattle.ob_serial.specs.VaultKinds.{kind_of}
use Rattle.ob_world.proofs.Weaving.{acts_are_a_world}
use Rattle.ob_world.proofs.lists.acts_are_a_world.Goals as goal

pub returns : goal.returns
returns g c = record { world = acts_are_a_world (kind_of g.V.Vault) }
