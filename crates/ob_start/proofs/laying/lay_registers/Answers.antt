use Rattle.std.proofs.Common.{Ok, ◌≡◌, ℕ, List, replicate, refl, ◌++◌, ◌⊎◌, inl, true, ◌∙◌, arith}
use Rattle.ob_base.specs.declared.fault.Failed.{Failed}
use Rattle.ob_store.specs.Calls.{IsFailed}
use Rattle.ob_store.proofs.Serving.{if_ok, goes_then, serves_then}
use Rattle.ob_store.proofs.Moments.{weakened}
use Rattle.ob_store.proofs.Doing.{does_refused, does_then, first_more, first_behind}
use Rattle.ob_twin.specs.Orders.{through_notes, set_notes}
use Rattle.ob_start.specs.Laying.{HasNoHead, IsTornHead}
use Rattle.ob_start.specs.Orders.{shut_notes, lay_notes}
use Rattle.ob_twin.specs.Keyed.{tagging}
use Rattle.ob_start.proofs.InClear.{head_laid, head_lost, laid_refused, laid_then}
use Rattle.ob_start.proofs.Clearing.{failed_then, first_torn, no_head_left, cleared, head_then, outside_head, generation_shut, epoch_apart, more_apart}
use Rattle.ob_start.proofs.laying.lay_registers.Goals as goal

pub set_first-requires-clause-closed : goal.set_first-requires-clause-closed
set_first-requires-clause-closed g c = λ tells.
    let e = c.in_ok-shut_gates.ensures in
    generation_shut (g.S.Store.disk c.shut_gates.new.store).cells (e.registers (e.serves.goes.told tells))

pub returns-in_err-write_out-clause-does : goal.returns-in_err-write_out-clause-does
returns-in_err-write_out-clause-does g c =
    let more = c.args.more_gates.now in
    does_refused _ _ _ _ (lay_notes more) c.from_residual.result c.from_residual.ensures.0
    (first_more _ _ _ _ (through_notes 0) (shut_notes more ++ set_notes true 1 1) c.in_err-write_out.ensures.does.first)

pub returns-in_err-shut_gates-clause-does : goal.returns-in_err-shut_gates-clause-does
returns-in_err-shut_gates-clause-does g c =
    let more = c.args.more_gates.now in
    does_refused _ _ _ _ (lay_notes more) c.from_residual-in_err-shut_gates.result c.from_residual-in_err-shut_gates.ensures.0
    (first_behind _ _ _ _ _ _ (through_notes 0) (shut_notes more ++ set_notes true 1 1) c.in_ok-write_out.ensures.does.all
    (first_more _ _ _ _ (shut_notes more) (set_notes true 1 1) c.in_err-shut_gates.ensures.does.first))

pub returns-clause-does : goal.returns-clause-does
returns-clause-does g c =
    let more = c.args.more_gates.now in
    does_then _ _ _ _ _ _ (through_notes 0) (shut_notes more ++ set_notes true 1 1) c.set_first.result c.in_ok-write_out.ensures.does.all
    (does_then _ _ _ _ _ _ (shut_notes more) (set_notes true 1 1) c.set_first.result c.in_ok-shut_gates.ensures.does.all c.set_first.ensures.does)

pub returns-clause-epoch : goal.returns-clause-epoch
returns-clause-epoch g c = λ tells.
    let e = c.in_ok-shut_gates.ensures in
    let one = c.in_ok-write_out.ensures.serves.tells tells in
    if_ok _ c.set_first.result (epoch_apart (g.S.Store.disk c.shut_gates.new.store).cells (g.S.Store.disk c.set_first.new.store).cells (c.set_first.ensures.rest (e.serves.tells one)) (e.registers one))

pub returns-clause-shut : goal.returns-clause-shut
returns-clause-shut g c = λ tells.
    let e = c.in_ok-shut_gates.ensures in
    let one = c.in_ok-write_out.ensures.serves.tells tells in
    if_ok _ c.set_first.result (more_apart c.args.more_gates.now (g.S.Store.disk c.shut_gates.new.store).cells (g.S.Store.disk c.set_first.new.store).cells c.requires.behind (c.set_first.ensures.rest (e.serves.tells one)) (e.more one))

pub returns-in_err-shut_gates-clause-serves : goal.returns-in_err-shut_gates-clause-serves
returns-in_err-shut_gates-clause-serves g c =
    let a = c.in_ok-write_out.ensures.serves in
    failed_then _ _ _ c.in_err-shut_gates.field-0.0 c.from_residual-in_err-shut_gates.result a.goes a.out c.from_residual-in_err-shut_gates.ensures.0 c.in_err-shut_gates.ensures.serves

pub returns-clause-serves : goal.returns-clause-serves
returns-clause-serves g c =
    let a = c.in_ok-write_out.ensures.serves in
    let b = c.in_ok-shut_gates.ensures.serves in
    serves_then IsFailed (g.S.Store.disk c.args.store.now) (g.S.Store.disk c.shut_gates.new.store) (g.S.Store.disk c.set_first.new.store) c.set_first.result
    (goes_then _ _ _ a.goes b.goes) (let x = a.out in let y = b.out in omega arith) (λ t. b.tells (a.tells t)) c.set_first.ensures.serves

pub returns-in_err-write_out-clause-crash : goal.returns-in_err-write_out-clause-crash
returns-in_err-write_out-clause-crash g c = λ tells.
    let old = g.S.Store.disk c.args.store.now in
    let new = g.S.Store.disk c.write_out.new.store in
    weakened old new (IsTornHead old) (λ i. IsTornHead old i ⊎ HasNoHead i) (λ i torn. inl torn) (first_torn old new (g.met.S.Store.only_now c.args.store.now) c.write_out.ensures.passes)

pub returns-in_err-shut_gates-clause-crash : goal.returns-in_err-shut_gates-clause-crash
returns-in_err-shut_gates-clause-crash g c = λ tells.
    let old = g.S.Store.disk c.args.store.now in
    let mid = g.S.Store.disk c.write_out.new.store in
    let new = g.S.Store.disk c.shut_gates.new.store in
    let e = c.in_ok-write_out.ensures in
    cleared old mid new (first_torn old mid (g.met.S.Store.only_now c.args.store.now) c.write_out.ensures.passes)
    (no_head_left mid new (g.met.S.Store.only_now c.write_out.new.store) (e.written tells) (e.durable tells) c.shut_gates.ensures.passes)

pub returns-clause-crash : goal.returns-clause-crash
returns-clause-crash g c = λ tells.
    let old = g.S.Store.disk c.args.store.now in
    let mid = g.S.Store.disk c.write_out.new.store in
    let shut = g.S.Store.disk c.shut_gates.new.store in
    let new = g.S.Store.disk c.set_first.new.store in
    let e = c.in_ok-write_out.ensures in
    cleared old mid new (first_torn old mid (g.met.S.Store.only_now c.args.store.now) c.write_out.ensures.passes)
    (no_head_left mid new (g.met.S.Store.only_now c.write_out.new.store) (e.written tells) (e.durable tells)
    (head_then mid shut new c.shut_gates.ensures.passes (outside_head 1 shut new (omega arith) c.set_first.ensures.passes)))

pub returns-clause-blank : goal.returns-clause-blank
returns-clause-blank g c = λ tells.
    let e = c.in_ok-write_out.ensures in
    let one = e.serves.tells tells in
    let shut = c.in_ok-shut_gates.ensures in
    if_ok _ c.set_first.result (c.set_first.ensures.rest (shut.serves.tells one) 0 (inl (omega arith)) ∙ shut.head one ∙ e.written tells)

pub returns-clause-durable : goal.returns-clause-durable
returns-clause-durable g c = λ tells.
    let e = c.in_ok-write_out.ensures in
    c.set_first.ensures.durable (c.in_ok-shut_gates.ensures.serves.tells (e.serves.tells tells))

-- ---- in the clear

abbrev Blank : List ℕ → Type 0
Blank head = head ≡ replicate 128 0

pub returns-in_err-write_out-clause-clear : goal.returns-in_err-write_out-clause-clear
returns-in_err-write_out-clause-clear g c = λ tells.
    let old = g.S.Store.disk c.args.store.now in
    let new = g.S.Store.disk c.write_out.new.store in
    head_lost Blank (tagging c.args.sealer.now.keys) (replicate 128 0) new.seen old.cells new.cells c.from_residual.result c.from_residual.ensures.0 refl
    (c.write_out.ensures.rest (c.write_out.ensures.serves.goes.told tells)) (c.in_err-write_out.ensures.refused tells)

pub returns-in_err-shut_gates-clause-clear : goal.returns-in_err-shut_gates-clause-clear
returns-in_err-shut_gates-clause-clear g c = λ tells.
    let tag = tagging c.args.sealer.now.keys in
    let old = g.S.Store.disk c.args.store.now in
    let mid = g.S.Store.disk c.write_out.new.store in
    let new = g.S.Store.disk c.shut_gates.new.store in
    let here = c.write_out.ensures.serves.goes.told (c.shut_gates.ensures.serves.goes.told tells) in
    laid_refused Blank tag old.cells mid.cells new.cells (λ cell low. head_laid Blank tag old.cells mid.cells (c.write_out.ensures.rest here) (c.in_ok-write_out.ensures.written here) cell)
    new.seen c.from_residual-in_err-shut_gates.result c.from_residual-in_err-shut_gates.ensures.0 (c.in_err-shut_gates.ensures.clear tag tells)

pub returns-clause-clear : goal.returns-clause-clear
returns-clause-clear g c = λ tells.
    let tag = tagging c.args.sealer.now.keys in
    let old = g.S.Store.disk c.args.store.now in
    let mid = g.S.Store.disk c.write_out.new.store in
    let shut = g.S.Store.disk c.shut_gates.new.store in
    let new = g.S.Store.disk c.set_first.new.store in
    let there = c.set_first.ensures.serves.goes.told tells in
    let one = c.shut_gates.ensures.serves.goes.told there in
    let here = c.write_out.ensures.serves.goes.told one in
    laid_then Blank tag old.cells shut.cells new.cells
    (laid_then Blank tag old.cells mid.cells shut.cells (λ cell low. head_laid Blank tag old.cells mid.cells (c.write_out.ensures.rest here) (c.in_ok-write_out.ensures.written here) cell) {T = Unit {0}} {E = Failed} shut.seen (Ok tt)
    (c.in_ok-shut_gates.ensures.clear tag there))
    new.seen c.set_first.result (c.set_first.ensures.clear tells)

-- ---- gates

pub returns-clause-gates : goal.returns-clause-gates
returns-clause-gates g c = λ tells. c.set_first.ensures.gates (c.in_ok-shut_gates.ensures.serves.tells (c.in_ok-write_out.ensures.serves.tells tells))
