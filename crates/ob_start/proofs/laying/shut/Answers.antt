use Rattle.std.proofs.Common.{◌≡◌, ◌+◌, ◌<◌, ℕ, List, length, get_or, ◌∙◌, refl, subst, arith}
use Rattle.std.proofs.lemmas.List.{take_all}
use Rattle.ob_store.specs.Told.{Tells}
use Rattle.ob_store.proofs.Doing.{tells_none, does_all, does_refused}
use Rattle.ob_start.specs.Orders.{writes_of}
use Rattle.ob_twin.proofs.Clear.{last_written}
use Rattle.ob_start.proofs.InClear.{shut_refused}
use Rattle.ob_start.proofs.Shutting.{none_shut, one_shut, passes_one, told_one, told_first}
use Rattle.ob_start.proofs.laying.shut.Goals as goal

pub loop-gate-init : goal.loop-gate-init
loop-gate-init g c = record {
  shutting = none_shut c.args.gates.now (g.S.Store.disk c.args.store.now) c.requires.none_out;
  told = tells_none (g.S.Store.disk c.args.store.now).seen (g.W.Watch.trace c.args.watch.now);
}

pub loop-gate-preserved : goal.loop-gate-preserved
loop-gate-preserved g c =
    let i = c.loop-gate.gate-index in
    let gate = get_or c.args.gates.now i 0 in
    let e = c.in_ok-write_noted.ensures in
    let high : 0 < gate = c.requires.behind i c.loop-gate-test.true in
    record {
      shutting = one_shut c.args.gates.now i gate (g.S.Store.disk c.args.store.now) (g.S.Store.disk c.loop-gate.store) (g.S.Store.disk c.write_noted.new.store) c.loop-gate-test.true refl c.loop-gate.invariant.shutting
          high e.serves (λ t. e.written t ∙ c.closed_gate-closed.ensures) e.rest e.crash e.time;
      told = told_one c.args.gates.now i gate c.loop-gate-test.true refl _ _ _ _ _ _ c.loop-gate.invariant.told e.told;
    }

pub returns-in_err-write_noted-clause-does : goal.returns-in_err-write_noted-clause-does
returns-in_err-write_noted-clause-does g c =
    let i = c.loop-gate.gate-index in
    does_refused _ _ _ _ (writes_of c.args.gates.now) c.from_residual.result c.from_residual.ensures.0
    (told_first c.args.gates.now (i + 1) _ _ _ _ (omega (arith, c.loop-gate-test.true))
    (told_one c.args.gates.now i (get_or c.args.gates.now i 0) c.loop-gate-test.true refl _ _ _ _ _ _ c.loop-gate.invariant.told c.write_noted.ensures.told))

pub returns-clause-does : goal.returns-clause-does
returns-clause-does g c =
    let whole : c.loop-gate.gate-index ≡ length c.args.gates.now = omega (arith, c.loop-gate-test.false, c.loop-gate.auto.gate-index-end) in
    does_all _ _ _ _ (writes_of c.args.gates.now) tt
    (subst (λ (l : List ℕ). Tells (writes_of l) (writes_of l) (g.S.Store.disk c.args.store.now).seen (g.S.Store.disk c.loop-gate.store).seen (g.W.Watch.trace c.args.watch.now) (g.W.Watch.trace c.loop-gate.watch))
    (take_all c.loop-gate.gate-index c.args.gates.now (omega (arith, whole))) c.loop-gate.invariant.told)

pub returns-in_err-write_noted-clause-passes : goal.returns-in_err-write_noted-clause-passes
returns-in_err-write_noted-clause-passes g c =
    let i = c.loop-gate.gate-index in
    let e = c.write_noted.ensures in
    passes_one c.args.gates.now i (get_or c.args.gates.now i 0) (g.S.Store.disk c.args.store.now) (g.S.Store.disk c.loop-gate.store) (g.S.Store.disk c.write_noted.new.store) c.loop-gate-test.true refl c.loop-gate.invariant.shutting
    (c.requires.behind i c.loop-gate-test.true) e.serves.goes e.crash e.time e.rest

pub returns-in_err-write_noted-clause-clear : goal.returns-in_err-write_noted-clause-clear
returns-in_err-write_noted-clause-clear g c = λ tells.
    let gate = get_or c.args.gates.now c.loop-gate.gate-index 0 in
    let old = g.S.Store.disk c.args.store.now in
    let mid = g.S.Store.disk c.loop-gate.store in
    let new = g.S.Store.disk c.write_noted.new.store in
    let there = c.write_noted.ensures.serves.goes.told tells in
    let here = c.loop-gate.invariant.shutting.goes.told there in
    shut_refused gate old.cells mid.cells new.cells (c.write_noted.ensures.rest there) new.seen c.from_residual.result c.from_residual.ensures.0
    (last_written gate mid.seen new.seen c.write_noted.ensures.told.seen) (c.loop-gate.invariant.shutting.each here)

pub returns-clause-clear : goal.returns-clause-clear
returns-clause-clear g c = λ tells. c.loop-gate.invariant.shutting.each (c.loop-gate.invariant.shutting.goes.told tells)
