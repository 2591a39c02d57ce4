use Rattle.std.proofs.Common.{◌≡◌, List, true, ◌<◌, ◌≤◌, is_some, length, sym, ap, ◌∙◌, subst}
use Rattle.std.proofs.lemmas.Result.{IfOk-from_err}
use Rattle.ob_order.specs.Works.{Work, with_op, version}
use Rattle.ob_versions.specs.Ledgers.{LedgerModel, IsLedger}
use Rattle.ob_versions.proofs.Kept.{ledger_noted, ledger_got, ready_same, ready_edit}
use Rattle.ob_versions.proofs.ledger.Ledger.add_get.Goals as goal

pub invariant_of-self : goal.invariant_of-self
invariant_of-self c =
    let a = c.self.inside in
    let e = c.note_source.ensures in
    let r = subst (λ (d : LedgerModel). (0 < c.args.t) × (c.args.t ≤ length d.works)) (sym c.self.view_is) c.requires.in_range in
    let h = ledger_noted a.keys a.written a.works.items a.table c.note_source.new.table c.args.t c.self.invariant.0 r.0 r.1 e.links e.bases e.keys e.notes in
    (h, c.self.invariant.1)

pub invariant_of-self-in_err-add_to : goal.invariant_of-self-in_err-add_to
invariant_of-self-in_err-add_to c =
    let a = c.self.inside in
    let e = c.note_source.ensures in
    let r = subst (λ (d : LedgerModel). (0 < c.args.t) × (c.args.t ≤ length d.works)) (sym c.self.view_is) c.requires.in_range in
    let h = ledger_noted a.keys a.written a.works.items a.table c.note_source.new.table c.args.t c.self.invariant.0 r.0 r.1 e.links e.bases e.keys e.notes in
    (subst (λ (ws : List Work). IsLedger a.keys a.written ws c.note_source.new.table) (sym c.in_err-add_to.ensures.err) h, ready_same a.works.items c.add_to.new.list.items a.agenda c.in_err-add_to.ensures.err c.self.invariant.1)

pub invariant_of-self-2 : goal.invariant_of-self-2
invariant_of-self-2 c =
    let a = c.self.inside in
    let e = c.note_source.ensures in
    let r = subst (λ (d : LedgerModel). (0 < c.args.t) × (c.args.t ≤ length d.works)) (sym c.self.view_is) c.requires.in_range in
    let h = ledger_noted a.keys a.written a.works.items a.table c.note_source.new.table c.args.t c.self.invariant.0 r.0 r.1 e.links e.bases e.keys e.notes in
    let from = subst (λ (d : LedgerModel). 0 < c.args.version.now.source → is_some (version d.works c.args.version.now.source c.args.key) ≡ true) (sym c.self.view_is) c.requires.source in
    let m = c.raise_mark.ensures in
    let ops = c.in_ok-add_to.ensures.ok ∙ ap (with_op a.works.items c.args.t) c.get_op.ensures in (
      subst (λ (ws : List Work). IsLedger a.keys a.written ws c.raise_mark.new.table) (sym ops)
          (ledger_got a.keys a.written a.works.items c.note_source.new.table c.raise_mark.new.table c.args.t c.args.key c.args.version.now.value c.args.version.now.source h r.0 r.1 from c.in_ok-note_source.ensures.ok.1 m.raises m.keys m.readers),
      ready_edit _ a.works.items c.add_to.new.list.items c.args.t a.agenda ops c.self.invariant.1,
    )

pub returns-in_err-note_source-clause-ok : goal.returns-in_err-note_source-clause-ok
returns-in_err-note_source-clause-ok c = IfOk-from_err c.from_residual.result _ c.from_residual.ensures.0

pub returns-in_err-add_to-clause-ok : goal.returns-in_err-add_to-clause-ok
returns-in_err-add_to-clause-ok c = IfOk-from_err c.from_residual-in_err-add_to.result _ c.from_residual-in_err-add_to.ensures.0
