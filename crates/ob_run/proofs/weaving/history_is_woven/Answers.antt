use Rattle.ob_serial.specs.VaultKinds.{kind_of}
use Rattle.ob_run.proofs.Entries.{histories_weave}
use Rattle.ob_run.proofs.weaving.history_is_woven.Goals as goal

pub returns : goal.returns
returns g c = histories_weave (kind_of g.V.Vault)
