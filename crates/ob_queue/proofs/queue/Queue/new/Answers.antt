use Rattle.std.proofs.lemmas.Result.{IfOk-from_err}
use Rattle.ob_queue.proofs.queue.Queue.new.Goals as goal

pub returns-in_err-bases-clause-params : goal.returns-in_err-bases-clause-params
returns-in_err-bases-clause-params c = IfOk-from_err c.from_residual.result _ c.from_residual.ensures.0

pub returns-in_err-bases-clause-state : goal.returns-in_err-bases-clause-state
returns-in_err-bases-clause-state c = IfOk-from_err c.from_residual.result _ c.from_residual.ensures.0
