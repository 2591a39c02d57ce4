use Rattle.std.proofs.Common.{List, ◌<◌, ◌≤◌, length, sym, subst}
use Rattle.ob_order.specs.Works.{Work, wait_for}
use Rattle.ob_versions.specs.Ledgers.{LedgerModel, IsLedger}
use Rattle.ob_versions.proofs.Kept.{ledger_noted, ledger_waits, ready_same, ready_edit}
use Rattle.ob_versions.proofs.ledger.Ledger.wait.Goals as goal

pub invariant_of-self : goal.invariant_of-self
invariant_of-self c =
    let a = c.self.inside in
    let e = c.note_reader.ensures in
    let r = subst (λ (d : LedgerModel). (0 < c.args.t) × (c.args.t ≤ length d.works)) (sym c.self.view_is) c.requires.in_range in
    let h = ledger_noted a.keys a.written a.works.items a.table c.note_reader.new.table c.args.t c.self.invariant.0 r.0 r.1 e.links e.bases e.keys e.notes in
    (h, c.self.invariant.1)

pub invariant_of-self-in_err-make_wait : goal.invariant_of-self-in_err-make_wait
invariant_of-self-in_err-make_wait c =
    let a = c.self.inside in
    let e = c.note_reader.ensures in
    let r = subst (λ (d : LedgerModel). (0 < c.args.t) × (c.args.t ≤ length d.works)) (sym c.self.view_is) c.requires.in_range in
    let h = ledger_noted a.keys a.written a.works.items a.table c.note_reader.new.table c.args.t c.self.invariant.0 r.0 r.1 e.links e.bases e.keys e.notes in
    (subst (λ (ws : List Work). IsLedger a.keys a.written ws c.note_reader.new.table) (sym c.in_err-make_wait.ensures.err) h, ready_same a.works.items c.make_wait.new.list.items a.agenda c.in_err-make_wait.ensures.err c.self.invariant.1)

pub invariant_of-self-2 : goal.invariant_of-self-2
invariant_of-self-2 c =
    let a = c.self.inside in
    let e = c.note_reader.ensures in
    let r = subst (λ (d : LedgerModel). (0 < c.args.t) × (c.args.t ≤ length d.works)) (sym c.self.view_is) c.requires.in_range in
    let h = ledger_noted a.keys a.written a.works.items a.table c.note_reader.new.table c.args.t c.self.invariant.0 r.0 r.1 e.links e.bases e.keys e.notes in (
      subst (λ (ws : List Work). IsLedger a.keys a.written ws c.note_reader.new.table) (sym c.in_ok-make_wait.ensures.ok) (ledger_waits a.keys a.written a.works.items c.note_reader.new.table c.args.t c.args.key h c.in_ok-note_reader.ensures.ok.1),
      ready_edit (wait_for c.args.key) a.works.items c.make_wait.new.list.items c.args.t a.agenda c.in_ok-make_wait.ensures.ok c.self.invariant.1,
    )
