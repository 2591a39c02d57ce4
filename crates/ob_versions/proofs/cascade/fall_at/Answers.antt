use Rattle.std.proofs.Common.{List, ◌-◌, refl, sym, ap, ◌∙◌, subst}
use Rattle.ob_order.specs.Works.{Work, fall_to, at_ticket}
use Rattle.ob_versions.specs.Ledgers.{IsLedger}
use Rattle.ob_versions.proofs.Kept.{ledger_ended}
use Rattle.ob_versions.proofs.cascade.fall_at.Goals as goal

pub returns-clause-kept : goal.returns-clause-kept
returns-clause-kept c =
    let a = c.args in
    let e = c.unlink_at.ensures in
    let r = c.requires.in_range in
    subst (λ (ws : List Work). IsLedger a.keys (a.written.now - c.unlink_at.result) ws c.unlink_at.new.table) (sym c.fall_in.ensures)
    (ledger_ended a.keys a.written.now a.list.now.items a.table.now c.unlink_at.new.table (fall_to c.args.on) a.t c.unlink_at.result c.requires.kept r.0 r.1 (λ x. refl) (λ x. refl) (λ x. refl)
    (λ x there. e.links x (ap (λ (ws : List Work). at_ticket ws a.t) c.deref.ensures.value ∙ there)) e.count e.bases e.readers)
