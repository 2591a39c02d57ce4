use Rattle.ob_serial.specs.VaultKinds.{kind_of}
use Rattle.ob_world.proofs.Lasting.{moments_are_prefixes}
use Rattle.ob_world.proofs.lists.moments_are_prefixes.Goals as goal

pub returns : goal.returns
returns g c = record { moments = moments_are_prefixes (kind_of g.V.Vault) }
