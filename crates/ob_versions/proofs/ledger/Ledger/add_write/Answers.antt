use Rattle.std.proofs.Common.{◌≡◌, List, Bool, true, false, ◌+◌, ◌≤◌, ◌&&◌, nat_lt, if◌then◌else◌, refl, sym, subst, arith}
use Rattle.std.proofs.lemmas.Result.{IfOk-from_err}
use Rattle.ob_order.specs.Works.{Work, goes_on}
use Rattle.ob_key_versions.specs.Tables.{has_links}
use Rattle.ob_versions.specs.Ledgers.{LedgerModel, IsLedger, covered_mark}
use Rattle.ob_versions.proofs.Kept.{ledger_room, ledger_wrote, count_most, ready_same, ready_edit}
use Rattle.ob_versions.proofs.ledger.Ledger.add_write.Goals as goal

pub invariant_of-self : goal.invariant_of-self
invariant_of-self c =
    let a = c.self.inside in
    let e = c.make_room.ensures in
    let h = ledger_room a.keys a.written a.works.items a.table c.make_room.new.table c.self.invariant.0 e.links e.bases e.keys e.readers in
    (h, c.self.invariant.1)

pub invariant_of-self-in_err-first : goal.invariant_of-self-in_err-first
invariant_of-self-in_err-first c =
    let a = c.self.inside in
    let e = c.make_room.ensures in
    let h = ledger_room a.keys a.written a.works.items a.table c.make_room.new.table c.self.invariant.0 e.links e.bases e.keys e.readers in
    let p = c.put_write.ensures in
    let q = c.in_err-first.ensures in (
      subst (λ (ws : List Work). IsLedger a.keys a.written ws c.put_write.new.table) (sym q.err)
          (ledger_room a.keys a.written a.works.items c.make_room.new.table c.put_write.new.table h q.err_links p.bases q.err_keys p.readers),
      ready_same a.works.items c.put_write.new.list.items a.agenda q.err c.self.invariant.1,
    )

pub overflow_add-self : goal.overflow_add-self
overflow_add-self c =
    let a = c.self.inside in
    let most = count_most (has_links a.table) a.keys in
    let counted = c.self.invariant.0.counted in
    let bit = few (c.in_ok-first.first && nat_lt c.args.key a.keys) in
    omega (arith, most, counted, bit, c.count_where.ensures, c.self.ranges)
  where
    few : (b : Bool) → (if b then 1 else 0) ≤ 1
    few true = omega arith
    few false = omega arith

pub invariant_of-self-2 : goal.invariant_of-self-2
invariant_of-self-2 c =
    let a = c.self.inside in
    let e = c.make_room.ensures in
    let h = ledger_room a.keys a.written a.works.items a.table c.make_room.new.table c.self.invariant.0 e.links e.bases e.keys e.readers in
    let p = c.put_write.ensures in
    let q = c.in_ok-first.ensures in
    let live = subst (λ (d : LedgerModel). goes_on d.works c.args.t ≡ true) (sym c.self.view_is) c.requires.live in
    let unread = subst (λ (d : LedgerModel). covered_mark d.works c.args.t c.args.key ≤ c.args.t) (sym c.self.view_is) c.requires.unread in (
      subst (λ (ws : List Work). IsLedger a.keys (a.written + c.count_where.result) ws c.put_write.new.table) (sym q.ok)
          (ledger_wrote a.keys a.written a.works.items c.make_room.new.table c.put_write.new.table c.args.t c.args.key c.args.value _ c.in_ok-first.first c.count_where.result h live unread refl refl q.links p.bases q.keys q.first c.count_where.ensures p.readers),
      ready_edit _ a.works.items c.put_write.new.list.items c.args.t a.agenda q.ok c.self.invariant.1,
    )

pub returns-in_err-make_room-clause-ok : goal.returns-in_err-make_room-clause-ok
returns-in_err-make_room-clause-ok c = IfOk-from_err c.from_residual.result _ c.from_residual.ensures.0

pub returns-in_err-first-clause-ok : goal.returns-in_err-first-clause-ok
returns-in_err-first-clause-ok c = IfOk-from_err c.from_residual-in_err-first.result _ c.from_residual-in_err-first.ensures.0
