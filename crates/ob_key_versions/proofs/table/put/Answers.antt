use Rattle.std.proofs.lemmas.Result.{IfOk-from_err}
use Rattle.ob_key_versions.proofs.table.put.Goals as goal

pub returns-in_err-put-in-Some-clause-first : goal.returns-in_err-put-in-Some-clause-first
returns-in_err-put-in-Some-clause-first c = IfOk-from_err c.from_residual.result _ c.from_residual.ensures.0

pub returns-in_err-put-in-Some-clause-links : goal.returns-in_err-put-in-Some-clause-links
returns-in_err-put-in-Some-clause-links c = IfOk-from_err c.from_residual.result _ c.from_residual.ensures.0

pub returns-in_err-put-in-Some-clause-keys : goal.returns-in_err-put-in-Some-clause-keys
returns-in_err-put-in-Some-clause-keys c = IfOk-from_err c.from_residual.result _ c.from_residual.ensures.0
