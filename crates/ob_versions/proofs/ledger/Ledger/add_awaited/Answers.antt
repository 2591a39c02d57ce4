use Rattle.std.proofs.Common.{◌≡◌, List, true, ◌<◌, ◌≤◌, Some, is_some, length, sym, ap, ◌∙◌, subst}
use Rattle.ob_order.specs.Works.{Work, with_op, version, waiting_at}
use Rattle.ob_versions.specs.Ledgers.{LedgerModel, IsLedger}
use Rattle.ob_versions.proofs.Kept.{ledger_got, ready_edit}
use Rattle.ob_versions.proofs.Readers.{chain_there}
use Rattle.ob_versions.proofs.ledger.Ledger.add_awaited.Goals as goal

pub invariant_of-self : goal.invariant_of-self
invariant_of-self c =
    let a = c.self.inside in
    let r = subst (λ (d : LedgerModel). (0 < c.args.t) × (c.args.t ≤ length d.works)) (sym c.self.view_is) c.requires.in_range in
    let from = subst (λ (d : LedgerModel). 0 < c.args.version.now.source → is_some (version d.works c.args.version.now.source c.args.key) ≡ true) (sym c.self.view_is) c.requires.source in
    let reads = c.self.invariant.0.readers.waits c.args.t c.args.key (subst (λ (d : LedgerModel). waiting_at d.works c.args.t ≡ Some c.args.key) (sym c.self.view_is) c.requires.waits) in
    let m = c.raise_mark.ensures in
    let ops = c.add_awaited.ensures ∙ ap (with_op a.works.items c.args.t) c.get_op.ensures in (
      subst (λ (ws : List Work). IsLedger a.keys a.written ws c.raise_mark.new.table) (sym ops)
          (ledger_got a.keys a.written a.works.items a.table c.raise_mark.new.table c.args.t c.args.key c.args.version.now.value c.args.version.now.source c.self.invariant.0 r.0 r.1 from (λ l. reads) m.raises m.keys m.readers),
      ready_edit _ a.works.items c.add_awaited.new.list.items c.args.t a.agenda ops c.self.invariant.1,
    )

pub raise_mark-requires : goal.raise_mark-requires
raise_mark-requires c = chain_there c.self.inside.table c.args.key c.args.t (c.self.invariant.0.readers.waits c.args.t c.args.key (subst (λ (d : LedgerModel). waiting_at d.works c.args.t ≡ Some c.args.key) (sym c.self.view_is) c.requires.waits))
