use Rattle.std.proofs.Common.{◌≡◌, sym, ap, ◌∙◌}
use Rattle.std.proofs.lemmas.Result.{IfOk-from_err}
use Rattle.ob_order.specs.Works as works
use Rattle.ob_order.specs.Order as rules
use Rattle.ob_order.proofs.Keeps.{kept_wrote}
use Rattle.ob_versions.proofs.Orders.{kept_ledger}
use Rattle.ob_versions.proofs.order.OrderEpochOrder.write.Goals as goal

pub invariant_of-self-2 : goal.invariant_of-self-2
invariant_of-self-2 c =
    let a = c.self.inside in
    let o : rules.OrderState = record a.queue.state { works = a.ledger.works } in
    let others : c.other_keys.result ≡ rules.other_keys a.queue.params o c.args.key = c.other_keys.ensures ∙ ap (rules.count_below (rules.is_other_written a.ledger.works c.args.key)) c.self.invariant.1 in
    let room : rules.other_keys a.queue.params o c.args.key ≡ a.queue.params.writes → ⊥ = λ e. c.if-other_keys-from.false (others ∙ (e ∙ (ap (λ (p : rules.Params). p.writes) (sym c.params.ensures) ∙ sym c.from.ensures))) in
    let k = kept_ledger a.queue.params (works.with_op a.ledger.works c.args.t (rules.write_op c.args.key c.args.value)) _ a.ledger c.in_ok-add_write.ensures.ok c.self.invariant.1 (kept_wrote a.queue.params o c.args.t c.args.key c.args.value c.self.invariant.0 room) in
    (k.0, k.1)

pub returns-in_err-add_write-clause-reply : goal.returns-in_err-add_write-clause-reply
returns-in_err-add_write-clause-reply c = IfOk-from_err c.from_residual.result _ c.from_residual.ensures.0

pub returns-in_err-add_write-clause-ok : goal.returns-in_err-add_write-clause-ok
returns-in_err-add_write-clause-ok c = IfOk-from_err c.from_residual.result _ c.from_residual.ensures.0
