use Rattle.std.proofs.lemmas.Result.{IfOk-from_err}
use Rattle.ob_key_versions.proofs.table.note.Goals as goal

pub returns-in_err-note-clause-ok : goal.returns-in_err-note-clause-ok
returns-in_err-note-clause-ok c = IfOk-from_err c.from_residual.result _ c.from_residual.ensures.0
