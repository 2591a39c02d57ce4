use Rattle.std.proofs.Common.{◌≡◌, ◌+◌, ◌≤◌, ◌∙◌, ℕ, List, length, subst, arith}
use Rattle.std.proofs.lemmas.List.{take_all}
use Rattle.std.proofs.lemmas.Result.{IfOk-from_err}
use Rattle.ob_schedule.specs.Schedule.{log_gates}
use Rattle.ob_start.specs.Orders.{writes_of}
use Rattle.ob_start.proofs.Shutting.{told_one, told_first}
use Rattle.ob_store.specs.Calls.{IsFailed}
use Rattle.ob_store.specs.Told.{Tells}
use Rattle.ob_store.proofs.Keeping.{serves_failed}
use Rattle.ob_store.proofs.Serving.{serves_ok, serves_then}
use Rattle.ob_store.proofs.Doing.{tells_none, does_all, does_refused}
use Rattle.ob_end.proofs.Shuts.{first_one, gate_at, gates_many, moments_one, shut_all, shut_one, shut_refused, shutting_none}
use Rattle.ob_end.proofs.shutting.shut_gates.Goals as goal

pub loop-batch-init : goal.loop-batch-init
loop-batch-init g c = record {
  shutting = shutting_none c.args.p.now c.args.area (g.S.Store.disk c.args.store.now) c.requires.none_out;
  told = tells_none (g.S.Store.disk c.args.store.now).seen (g.W.Watch.trace c.args.watch.now);
}

pub loop-batch-preserved : goal.loop-batch-preserved
loop-batch-preserved g c =
    let p = c.args.p.now in
    let n = c.loop-batch.batch in
    let e = c.in_ok-write_noted.ensures in
    record {
      shutting = shut_one p c.args.area n c.log_gate.result (g.S.Store.disk c.args.store.now) (g.S.Store.disk c.loop-batch.store) (g.S.Store.disk c.write_noted.new.store) c.loop-batch-test.true c.log_gate.ensures.cell c.loop-batch.invariant.shutting
          e.serves.goes e.rest e.crash e.time e.serves (λ t. e.written t ∙ c.closed_gate-closed.ensures);
      told = told_one (log_gates p c.args.area) n c.log_gate.result (omega (arith, gates_many p c.args.area, c.loop-batch-test.true)) (gate_at p c.args.area n c.log_gate.result c.loop-batch-test.true c.log_gate.ensures.cell) _ _ _ _ _ _
          c.loop-batch.invariant.told e.told;
    }

pub returns-in_err-write_noted-clause-shuts : goal.returns-in_err-write_noted-clause-shuts
returns-in_err-write_noted-clause-shuts g c =
    let e = c.write_noted.ensures in
    shut_refused c.args.p.now c.args.area c.loop-batch.batch c.log_gate.result (g.S.Store.disk c.args.store.now) (g.S.Store.disk c.loop-batch.store) (g.S.Store.disk c.write_noted.new.store) c.loop-batch-test.true c.log_gate.ensures.cell
    c.loop-batch.invariant.shutting e.serves.goes e.rest e.crash e.time c.from_residual.result c.from_residual.ensures.0

pub returns-in_err-write_noted-clause-first : goal.returns-in_err-write_noted-clause-first
returns-in_err-write_noted-clause-first g c =
    let e = c.write_noted.ensures in
    first_one c.args.p.now c.args.area c.loop-batch.batch c.log_gate.result (g.S.Store.disk c.args.store.now) (g.S.Store.disk c.loop-batch.store) (g.S.Store.disk c.write_noted.new.store) c.loop-batch-test.true c.log_gate.ensures.cell
    c.loop-batch.invariant.shutting e.serves.goes e.rest e.crash e.time

pub returns-in_err-write_noted-clause-moments : goal.returns-in_err-write_noted-clause-moments
returns-in_err-write_noted-clause-moments g c =
    let e = c.write_noted.ensures in
    moments_one c.args.p.now c.args.area c.loop-batch.batch c.log_gate.result (g.S.Store.disk c.args.store.now) (g.S.Store.disk c.loop-batch.store) (g.S.Store.disk c.write_noted.new.store) c.loop-batch-test.true c.log_gate.ensures.cell
    c.loop-batch.invariant.shutting e.serves.goes e.rest e.crash e.time

pub returns-in_err-write_noted-clause-does : goal.returns-in_err-write_noted-clause-does
returns-in_err-write_noted-clause-does g c =
    let p = c.args.p.now in
    let n = c.loop-batch.batch in
    let few : n + 1 ≤ length (log_gates p c.args.area) = omega (arith, gates_many p c.args.area, c.loop-batch-test.true) in
    does_refused _ _ _ _ (writes_of (log_gates p c.args.area)) c.from_residual.result c.from_residual.ensures.0
    (told_first (log_gates p c.args.area) (n + 1) _ _ _ _ few
    (told_one (log_gates p c.args.area) n c.log_gate.result (omega (arith, few)) (gate_at p c.args.area n c.log_gate.result c.loop-batch-test.true c.log_gate.ensures.cell) _ _ _ _ _ _ c.loop-batch.invariant.told c.write_noted.ensures.told))

pub returns-clause-shuts : goal.returns-clause-shuts
returns-clause-shuts g c =
    let whole : c.loop-batch.batch ≡ c.args.p.now.batches = omega (arith, c.loop-batch-test.false, c.loop-batch.auto.batch-end) in
    shut_all c.args.p.now c.args.area c.loop-batch.batch (g.S.Store.disk c.args.store.now) (g.S.Store.disk c.loop-batch.store) whole c.loop-batch.invariant.shutting

pub returns-clause-does : goal.returns-clause-does
returns-clause-does g c =
    let gates = log_gates c.args.p.now c.args.area in
    let whole : c.loop-batch.batch ≡ c.args.p.now.batches = omega (arith, c.loop-batch-test.false, c.loop-batch.auto.batch-end) in
    let all : length gates ≤ c.loop-batch.batch = omega (arith, whole, gates_many c.args.p.now c.args.area) in
    does_all _ _ _ _ (writes_of gates) tt
    (subst (λ (l : List ℕ). Tells (writes_of l) (writes_of l) (g.S.Store.disk c.args.store.now).seen (g.S.Store.disk c.loop-batch.store).seen (g.W.Watch.trace c.args.watch.now) (g.W.Watch.trace c.loop-batch.watch))
    (take_all c.loop-batch.batch gates all) c.loop-batch.invariant.told)

-- ---- what each of them says of the store

pub write_noted-requires : goal.write_noted-requires
write_noted-requires g c = c.loop-batch.invariant.shutting.out

pub returns-in_err-write_noted-clause-serves : goal.returns-in_err-write_noted-clause-serves
returns-in_err-write_noted-clause-serves g c =
    let so_far = c.loop-batch.invariant.shutting in
    serves_then IsFailed (g.S.Store.disk c.args.store.now) (g.S.Store.disk c.loop-batch.store) (g.S.Store.disk c.write_noted.new.store) c.from_residual.result so_far.goes (let none = so_far.out in omega arith) so_far.tells
    (serves_failed _ _ _ c.from_residual.result c.from_residual.ensures.0 c.in_err-write_noted.ensures.serves)

pub returns-in_err-write_noted-clause-unsealed : goal.returns-in_err-write_noted-clause-unsealed
returns-in_err-write_noted-clause-unsealed g c = λ tells. IfOk-from_err c.from_residual.result _ c.from_residual.ensures.0

pub returns-clause-serves : goal.returns-clause-serves
returns-clause-serves g c =
    let so_far = c.loop-batch.invariant.shutting in
    serves_ok IsFailed _ _ tt so_far.goes (let none = so_far.out in omega arith) so_far.tells

pub returns-clause-first : goal.returns-clause-first
returns-clause-first g c = c.loop-batch.invariant.shutting.first

pub returns-clause-moments : goal.returns-clause-moments
returns-clause-moments g c = c.loop-batch.invariant.shutting.moments

pub returns-clause-unsealed : goal.returns-clause-unsealed
returns-clause-unsealed g c = c.loop-batch.invariant.shutting.unsealed
