use Rattle.ob_vault.proofs.Given.{tapes_exist}
use Rattle.ob_vault.proofs.runs.tapes_exist.Goals as goal

pub returns : goal.returns
returns g c = λ keys p drawn made parts f from. tapes_exist (λ s. g.S.Store.disk s) keys p drawn made parts f from
