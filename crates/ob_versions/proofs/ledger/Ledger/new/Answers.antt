use Rattle.std.proofs.Common.{List, sym, subst}
use Rattle.ob_order.specs.Works.{Work}
use Rattle.ob_versions.specs.Ledgers.{IsLedger}
use Rattle.ob_versions.proofs.Kept.{ledger_none, ready_none}
use Rattle.ob_versions.proofs.ledger.Ledger.new.Goals as goal

pub invariant_of-result : goal.invariant_of-result
invariant_of-result c = (
  subst (λ (ws : List Work). IsLedger c.args.keys 0 ws c.new-2.result) (sym c.new.ensures.items) (ledger_none c.args.keys c.new-2.result c.new-2.ensures.empty),
  ready_none _ c.new-3.result c.new.ensures.items c.new-3.ensures,
)
