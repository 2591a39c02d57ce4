use Rattle.std.proofs.Common.{List, sym, subst}
use Rattle.ob_order.specs.Works.{Work}
use Rattle.ob_versions.specs.Ledgers.{IsLedger}
use Rattle.ob_versions.proofs.Kept.{ledger_none, ready_none}
use Rattle.ob_versions.proofs.ledger.Ledger.clear.Goals as goal

pub invariant_of-self : goal.invariant_of-self
invariant_of-self c = (
  subst (λ (ws : List Work). IsLedger c.self.inside.keys 0 ws c.clear-2.new.self) (sym c.clear.ensures.items) (ledger_none c.self.inside.keys c.clear-2.new.self c.clear-2.ensures.empty),
  ready_none _ c.self.inside.agenda c.clear.ensures.items c.self.invariant.1.1,
)
