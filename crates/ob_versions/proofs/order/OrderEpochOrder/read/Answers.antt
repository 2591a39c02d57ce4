use Rattle.std.proofs.lemmas.Result.{IfOk-from_err}
use Rattle.ob_order.proofs.Steps.{live_above, live_within}
use Rattle.ob_versions.proofs.order.OrderEpochOrder.read.Goals as goal

pub note_get-requires-clause-in_range : goal.note_get-requires-clause-in_range
note_get-requires-clause-in_range c = let live = c.requires.live in (live_above c.args.self.now.state.works c.args.t live, live_within c.args.self.now.state.works c.args.t live)

pub note_wait-requires : goal.note_wait-requires
note_wait-requires c = let live = c.requires.live in record { in_range = (live_above c.args.self.now.state.works c.args.t live, live_within c.args.self.now.state.works c.args.t live) }

pub returns-in_err-note_get-clause-reply : goal.returns-in_err-note_get-clause-reply
returns-in_err-note_get-clause-reply c = IfOk-from_err c.from_residual.result _ c.from_residual.ensures.0

pub returns-in_err-note_get-clause-ok : goal.returns-in_err-note_get-clause-ok
returns-in_err-note_get-clause-ok c = IfOk-from_err c.from_residual.result _ c.from_residual.ensures.0

pub returns-in_err-note_wait-clause-reply : goal.returns-in_err-note_wait-clause-reply
returns-in_err-note_wait-clause-reply c = IfOk-from_err c.from_residual-in_err-note_wait.result _ c.from_residual-in_err-note_wait.ensures.0

pub returns-in_err-note_wait-clause-ok : goal.returns-in_err-note_wait-clause-ok
returns-in_err-note_wait-clause-ok c = IfOk-from_err c.from_residual-in_err-note_wait.result _ c.from_residual-in_err-note_wait.ensures.0
