use Rattle.std.proofs.Common.{◌≡◌, Some, sym, subst}
use Rattle.ob_order.specs.Works as works
use Rattle.ob_order.specs.declared.answers.Version.{Version}
use Rattle.ob_order.specs.Order as rules
use Rattle.ob_order.specs.OrderModel.{OrderModel}
use Rattle.ob_order.proofs.Keeps.{kept_got}
use Rattle.ob_versions.proofs.Orders.{kept_ledger, answer_held}
use Rattle.ob_versions.proofs.order.Order.note_awaited.Goals as goal

pub add_awaited-requires-clause-source : goal.add_awaited-requires-clause-source
add_awaited-requires-clause-source c =
    let a = c.self.inside in
    let o : rules.OrderState = record a.queue.state { works = a.ledger.works } in
    let made : Version = c.args.version.now in
    let found : rules.answer o c.args.t c.args.key ≡ Some made = subst (λ (m : OrderModel). rules.answer m.state c.args.t c.args.key ≡ Some made) (sym c.self.view_is) c.requires.answered in
    answer_held o c.args.t c.args.key made found

pub invariant_of-self : goal.invariant_of-self
invariant_of-self c =
    let a = c.self.inside in
    let o : rules.OrderState = record a.queue.state { works = a.ledger.works } in
    let made : Version = c.args.version.now in
    let found : rules.answer o c.args.t c.args.key ≡ Some made = subst (λ (m : OrderModel). rules.answer m.state c.args.t c.args.key ≡ Some made) (sym c.self.view_is) c.requires.answered in
    let k = kept_ledger a.queue.params (works.with_op a.ledger.works c.args.t (works.Get c.args.key made.value made.source)) _ a.ledger c.add_awaited.ensures c.self.invariant.1 (kept_got a.queue.params o c.args.t c.args.key made c.self.invariant.0 found) in
    (k.0, k.1)
