use Rattle.std.proofs.Common.{List, ◌++◌, ◌∷◌, [], sym, ap, ◌∙◌, subst, arith}
use Rattle.std.proofs.lemmas.Result.{IfOk-from_err}
use Rattle.ob_order.specs.Works.{Work}
use Rattle.ob_versions.specs.Ledgers.{IsLedger}
use Rattle.ob_versions.proofs.Kept.{ledger_begun, ready_more, ready_still}
use Rattle.ob_versions.proofs.ledger.Ledger.begin.Goals as goal

pub invariant_of-self-2 : goal.invariant_of-self-2
invariant_of-self-2 c =
    let a = c.self.inside in
    let more = c.push_reserved.ensures.items ∙ (ap (λ (ws : List Work). ws ++ c.new.result ∷ []) c.reserve.ensures.items ∙ ap (λ (w : Work). a.works.items ++ w ∷ []) c.new.ensures) in (
      subst (λ (ws : List Work). IsLedger a.keys a.written ws a.table) (sym more) (ledger_begun a.keys a.written a.works.items a.table c.self.invariant.0),
      ready_more a.works.items c.push_reserved.new.self.items _ a.agenda c.make_room.new.self more c.self.invariant.1 (omega (arith, c.in_ok-make_room.ensures.ok, c.len.ensures)) c.make_room.ensures.tickets,
    )

pub returns-in_err-make_room-clause-ok : goal.returns-in_err-make_room-clause-ok
returns-in_err-make_room-clause-ok c = IfOk-from_err c.from_residual.result _ c.from_residual.ensures.0

pub invariant_of-self-in_err-reserve : goal.invariant_of-self-in_err-reserve
invariant_of-self-in_err-reserve c =
    let a = c.self.inside in
    let same = c.reserve.ensures.items in (
      subst (λ (ws : List Work). IsLedger a.keys a.written ws a.table) (sym same) c.self.invariant.0,
      ready_still a.works.items c.reserve.new.self.items a.agenda c.make_room.new.self same c.self.invariant.1 c.make_room.ensures.room c.make_room.ensures.tickets,
    )

pub returns-in_err-reserve-clause-ok : goal.returns-in_err-reserve-clause-ok
returns-in_err-reserve-clause-ok c = IfOk-from_err c.from_residual-in_err-reserve.result _ c.from_residual-in_err-reserve.ensures.0
