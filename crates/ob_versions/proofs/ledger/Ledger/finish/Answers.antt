use Rattle.std.proofs.Common.{List, sym, ap, ◌∙◌, subst}
use Rattle.ob_order.specs.Works.{Work}
use Rattle.ob_versions.specs.Ledgers.{IsLedger}
use Rattle.ob_versions.proofs.Kept.{ledger_none, ready_none}
use Rattle.ob_versions.proofs.ledger.Ledger.finish.Goals as goal

pub invariant_of-self : goal.invariant_of-self
invariant_of-self c =
    let none = ap (λ v. v.items) c.replace.ensures.after ∙ c.new.ensures.items in (
      subst (λ (ws : List Work). IsLedger c.self.inside.keys 0 ws c.clear.new.self) (sym none) (ledger_none c.self.inside.keys c.clear.new.self c.clear.ensures.empty),
      ready_none _ c.self.inside.agenda none c.self.invariant.1.1,
    )
