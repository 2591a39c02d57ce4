use Rattle.std.proofs.Common.{◌≡◌, ◌+◌, refl, subst, arith, length}
use Rattle.ob_store.specs.Runs.{write_notes}
use Rattle.ob_store.specs.Told.{Tells}
use Rattle.std.proofs.lemmas.Result.{IfOk-from_err}
use Rattle.ob_store.specs.Calls.{IsFailed}
use Rattle.ob_store.proofs.Serving.{serves_ok, serves_then}
use Rattle.ob_store.proofs.Keeping.{serves_failed}
use Rattle.ob_store.proofs.Runs.{one_more, elsewhere_one, passes_one, told_next, first_run}
use Rattle.ob_store.proofs.Doing.{does_all, does_refused}
use Rattle.ob_store.proofs.run.write_run.Goals as goal

pub loop-i-preserved : goal.loop-i-preserved
loop-i-preserved g c =
    let e = c.in_ok-write_noted.ensures in
    record {
      writing = one_more c.args.base c.args.rows.now c.loop-i.i (g.S.Store.disk c.args.store.now) (g.S.Store.disk c.loop-i.store) (g.S.Store.disk c.write_noted.new.store)
          c.loop-i-test.true c.loop-i.invariant.writing _ refl e.serves e.written e.rest e.crash e.time;
      told = told_next c.args.base c.loop-i.i _ _ _ _ _ _ c.loop-i.invariant.told e.told;
    }

pub returns-clause-does : goal.returns-clause-does
returns-clause-does g c =
    let whole : c.loop-i.i ≡ length c.args.rows.now = omega (arith, c.loop-i-test.false, c.loop-i.auto.i-end) in
    does_all _ _ _ _ (write_notes c.args.base (length c.args.rows.now)) tt
    (subst (λ n. Tells (write_notes c.args.base n) (write_notes c.args.base n) (g.S.Store.disk c.args.store.now).seen (g.S.Store.disk c.loop-i.store).seen (g.W.Watch.trace c.args.watch.now) (g.W.Watch.trace c.loop-i.watch)) whole
    c.loop-i.invariant.told)

pub returns-in_err-write_noted-clause-does : goal.returns-in_err-write_noted-clause-does
returns-in_err-write_noted-clause-does g c =
    does_refused _ _ _ _ (write_notes c.args.base (length c.args.rows.now)) c.from_residual.result c.from_residual.ensures.0
    (first_run c.args.base (length c.args.rows.now) (c.loop-i.i + 1) _ _ _ _ (omega (arith, c.loop-i-test.true))
    (told_next c.args.base c.loop-i.i _ _ _ _ _ _ c.loop-i.invariant.told c.write_noted.ensures.told))

pub returns-clause-serves : goal.returns-clause-serves
returns-clause-serves g c =
    let w = c.loop-i.invariant.writing in
    serves_ok IsFailed _ _ tt w.goes (let none = w.out in omega arith) w.tells

pub returns-clause-written : goal.returns-clause-written
returns-clause-written g c =
    let whole : c.loop-i.i ≡ length c.args.rows.now = omega (arith, c.loop-i-test.false, c.loop-i.auto.i-end) in
    λ tells j below. c.loop-i.invariant.writing.here tells j (omega (arith, whole, below))

pub returns-clause-rest : goal.returns-clause-rest
returns-clause-rest g c = λ tells. c.loop-i.invariant.writing.elsewhere tells

pub returns-clause-passes : goal.returns-clause-passes
returns-clause-passes g c = c.loop-i.invariant.writing.passes

pub returns-in_err-write_noted-clause-serves : goal.returns-in_err-write_noted-clause-serves
returns-in_err-write_noted-clause-serves g c =
    let w = c.loop-i.invariant.writing in
    serves_then IsFailed _ (g.S.Store.disk c.loop-i.store) _ c.from_residual.result w.goes (let none = w.out in omega arith) w.tells
    (serves_failed _ _ _ c.from_residual.result c.from_residual.ensures.0 c.in_err-write_noted.ensures.serves)

pub returns-in_err-write_noted-clause-written : goal.returns-in_err-write_noted-clause-written
returns-in_err-write_noted-clause-written g c = λ tells. IfOk-from_err c.from_residual.result _ c.from_residual.ensures.0

pub returns-in_err-write_noted-clause-rest : goal.returns-in_err-write_noted-clause-rest
returns-in_err-write_noted-clause-rest g c =
    let w = c.loop-i.invariant.writing in
    elsewhere_one c.args.base c.args.rows.now c.loop-i.i (g.S.Store.disk c.args.store.now) (g.S.Store.disk c.loop-i.store) (g.S.Store.disk c.write_noted.new.store)
    c.loop-i-test.true w (λ tells. c.write_noted.ensures.rest (w.tells tells))

pub returns-in_err-write_noted-clause-passes : goal.returns-in_err-write_noted-clause-passes
returns-in_err-write_noted-clause-passes g c =
    let e = c.write_noted.ensures in
    passes_one c.args.base c.args.rows.now c.loop-i.i (g.S.Store.disk c.args.store.now) (g.S.Store.disk c.loop-i.store) (g.S.Store.disk c.write_noted.new.store)
    c.loop-i-test.true c.loop-i.invariant.writing e.serves.goes e.crash e.time e.rest
