use Rattle.std.proofs.lemmas.Result.{IfOk-from_err}
use Rattle.ob_key_versions.proofs.chain.Chain.put.Goals as goal

pub returns-in_err-old-clause-had : goal.returns-in_err-old-clause-had
returns-in_err-old-clause-had c = IfOk-from_err c.from_residual.result _ c.from_residual.ensures.0

pub returns-in_err-old-clause-len : goal.returns-in_err-old-clause-len
returns-in_err-old-clause-len c = IfOk-from_err c.from_residual.result _ c.from_residual.ensures.0

pub returns-in_err-old-clause-links : goal.returns-in_err-old-clause-links
returns-in_err-old-clause-links c = IfOk-from_err c.from_residual.result _ c.from_residual.ensures.0
