use Rattle.std.proofs.Common.{◌≡◌, ◌∷◌, [], ◌++◌, if◌then◌else◌, false, length, sym, ap, ◌∙◌, subst, length-append, arith}
use Rattle.std.proofs.lemmas.Result.{IfOk-from_err}
use Rattle.ob_order.specs.Order as rules
use Rattle.ob_order.specs.Order.{Params, OrderState}
use Rattle.ob_order.specs.OrderModel.{OrderModel, IsKept}
use Rattle.ob_order.specs.Works as works
use Rattle.ob_order.proofs.Keeps.{kept_waits}
use Rattle.ob_versions.proofs.Orders.{kept_ledger}
use Rattle.ob_versions.proofs.order.Order.note_wait.Goals as goal

pub invariant_of-self-then-is_asked_for : goal.invariant_of-self-then-is_asked_for
invariant_of-self-then-is_asked_for c =
    let a = c.self.inside in
    let k = kept_ledger a.queue.params (works.edit (works.wait_for c.args.key) a.ledger.works c.args.t) _ a.ledger c.in_ok-wait.ensures.ok c.self.invariant.1 (kept_waits a.queue.params a.ledger.works c.args.t c.args.key c.self.invariant.0) in
    (k.0, k.1)

pub invariant_of-self-in-Ok : goal.invariant_of-self-in-Ok
invariant_of-self-in-Ok c =
    let a = c.self.inside in
    let l = c.wait-2.new.self in
    let same : a.queue.params ≡ c.ask.new.self.params = sym (ap (λ (m : OrderModel). m.params) c.in_ok-ask.ensures.ok) in
    let k = kept_ledger a.queue.params (works.edit (works.wait_for c.args.key) a.ledger.works c.args.t) l a.ledger c.in-Ok.ensures.ok c.self.invariant.1 (kept_waits a.queue.params a.ledger.works c.args.t c.args.key c.self.invariant.0) in
    subst (λ (p : Params). IsKept p l.works × (l.keys ≡ p.keys)) same (k.0, k.1)

pub take_back-requires : goal.take_back-requires
take_back-requires c =
    let o : OrderState = c.self.inside.queue.state in
    let key = c.args.key in
    let is : rules.is_asked_for o key ≡ false = sym c.is_asked_for.ensures ∙ c.if-is_asked_for.false in
    let queue : c.ask.new.self.state.queue ≡ o.queue ++ key ∷ [] =
    ap (λ (m : OrderModel). m.state.queue) c.in_ok-ask.ensures.ok ∙ ap (λ b. (let next : OrderState = if b then o else record o { queue = o.queue ++ key ∷ [] } in next).queue) is in
    omega (arith, ap length queue, length-append o.queue (key ∷ []))

pub returns-in_err-wait-clause-ok : goal.returns-in_err-wait-clause-ok
returns-in_err-wait-clause-ok c = IfOk-from_err c.from_residual.result _ c.from_residual.ensures.0

pub returns-in_err-ask-clause-ok : goal.returns-in_err-ask-clause-ok
returns-in_err-ask-clause-ok c = IfOk-from_err c.from_residual-in_err-ask.result _ c.from_residual-in_err-ask.ensures.0
