use Rattle.ob_serial.specs.VaultKinds.{kind_of}
use Rattle.ob_run.proofs.Over.{over_runs}
use Rattle.ob_run.proofs.ending.over_runs_end_over.Goals as goal

pub returns : goal.returns
returns g c = over_runs (kind_of g.V.Vault)
