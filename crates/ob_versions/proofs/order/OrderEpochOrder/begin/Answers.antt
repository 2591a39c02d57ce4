use Rattle.std.proofs.Common.{◌++◌, ◌∷◌, []}
use Rattle.std.proofs.lemmas.Result.{IfOk-from_err}
use Rattle.ob_order.specs.Order as rules
use Rattle.ob_order.proofs.Keeps.{kept_begun}
use Rattle.ob_versions.proofs.Orders.{kept_ledger}
use Rattle.ob_versions.proofs.order.OrderEpochOrder.begin.Goals as goal

pub invariant_of-self-2 : goal.invariant_of-self-2
invariant_of-self-2 c =
    let a = c.self.inside in
    let k = kept_ledger a.queue.params (a.ledger.works ++ rules.fresh ∷ []) _ a.ledger c.in_ok-begin.ensures.ok c.self.invariant.1 (kept_begun a.queue.params a.ledger.works c.self.invariant.0) in
    (k.0, k.1)

pub returns-in_err-begin-clause-ticket : goal.returns-in_err-begin-clause-ticket
returns-in_err-begin-clause-ticket c = IfOk-from_err c.from_residual.result _ c.from_residual.ensures.0

pub returns-in_err-begin-clause-ok : goal.returns-in_err-begin-clause-ok
returns-in_err-begin-clause-ok c = IfOk-from_err c.from_residual.result _ c.from_residual.ensures.0
