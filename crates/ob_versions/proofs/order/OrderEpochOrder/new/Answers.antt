use Rattle.std.proofs.Common.{◌≡◌, [], List, sym, ap, ◌∙◌, subst}
use Rattle.ob_order.specs.Order.{Params}
use Rattle.ob_order.specs.OrderModel.{IsKept}
use Rattle.ob_order.specs.Works.{Work}
use Rattle.ob_order.proofs.Keeps.{kept_none}
use Rattle.ob_versions.specs.Ledgers.{LedgerModel}
use Rattle.ob_versions.proofs.order.OrderEpochOrder.new.Goals as goal

pub invariant_of-result : goal.invariant_of-result
invariant_of-result c =
    let params : c.in_ok-queue.queue.params ≡ c.args.params.now = c.in_ok-queue.ensures.params in
    let none : c.new-2.result.works ≡ [] = ap (λ (l : LedgerModel). l.works) c.new-2.ensures in (
      subst (λ (ws : List Work). IsKept c.in_ok-queue.queue.params ws) (sym none) (kept_none c.in_ok-queue.queue.params),
      ap (λ (l : LedgerModel). l.keys) c.new-2.ensures ∙ ap (λ (p : Params). p.keys) (sym params),
    )
