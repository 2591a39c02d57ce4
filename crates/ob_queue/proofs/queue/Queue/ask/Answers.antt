use Rattle.std.proofs.Common.{◌≡◌, ℕ, List, Option, false, nat_cmp, sym, ap, ◌∙◌, subst}
use Rattle.std.specs.FinMap as finite
use Rattle.std.proofs.lemmas.Result.{IfOk-from_err}
use Rattle.ob_order.specs.Order as rules
use Rattle.ob_order.specs.OrderModel.{OrderModel}
use Rattle.ob_queue.specs.Queues.{state_of}
use Rattle.ob_queue.proofs.Asked.{is_among, one_known, one_asked}
use Rattle.ob_queue.proofs.queue.Queue.ask.Goals as goal

pub returns-then-is_asked_for-clause-ok : goal.returns-then-is_asked_for-clause-ok
returns-then-is_asked_for-clause-ok c =
    let made : rules.OrderState → OrderModel = λ o. record { params = c.args.self.now.params; state = o } in
    ap made (one_known c.args.self.now.state c.args.key (sym c.is_asked_for.ensures ∙ c.if-is_asked_for.true))

pub push-requires : goal.push-requires
push-requires c =
    let a = c.self.inside in
    let is : rules.is_asked_for c.args.self.now.state c.args.key ≡ false = sym c.is_asked_for.ensures ∙ c.if-is_asked_for.false in
    is_among a.left a.flying a.asked (finite.from_entries a.bases.entries) c.args.key ∙ subst (λ (m : OrderModel). rules.is_asked_for m.state c.args.key ≡ false) (sym c.self.view_is) is

pub returns-clause-ok : goal.returns-clause-ok
returns-clause-ok c =
    let a = c.self.inside in
    let bases : finite.FinMap nat_cmp (Option (List ℕ)) = finite.from_entries a.bases.entries in
    let made : rules.OrderState → OrderModel = λ o. record { params = a.params; state = o } in
    subst (λ (m : OrderModel). rules.is_asked_for m.state c.args.key ≡ false → made (state_of a.left a.flying c.push.new.self bases) ≡ record { params = m.params; state = rules.asked m.state c.args.key }) c.self.view_is
    (λ is. ap made (ap (λ ks. state_of a.left a.flying ks bases) c.in_ok-push.ensures.ok ∙ one_asked a.left a.flying a.asked bases c.args.key is c.self.invariant.0))
    (sym c.is_asked_for.ensures ∙ c.if-is_asked_for.false)

pub returns-in_err-push-clause-ok : goal.returns-in_err-push-clause-ok
returns-in_err-push-clause-ok c = IfOk-from_err c.from_residual.result _ c.from_residual.ensures.0
