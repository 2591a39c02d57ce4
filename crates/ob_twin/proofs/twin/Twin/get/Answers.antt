use Rattle.std.proofs.Common.{◌≡◌, ℕ, List, Option, Ok, Err, sym, subst}
use Rattle.ob_base.specs.declared.fault.Fault.{Fault}
use Rattle.ob_store.specs.declared.event.Event.{Event}
use Rattle.ob_store.specs.Lines.{Trace}
use Rattle.ob_store.specs.Told.{Tells, TellsFirst}
use Rattle.ob_twin.specs.Register.{first_of, StandsAt}
use Rattle.ob_twin.specs.Orders.{get_notes}
use Rattle.ob_twin.specs.Got.{DoesReads, IsGates}
use Rattle.ob_twin.proofs.Gating.{are_read, told_alone, told_nothing}
use Rattle.ob_twin.specs.Reading.{IsRead, IsGot}
use Rattle.ob_twin.proofs.Judging.{number_read, damage_read}
use Rattle.ob_store.specs.Calls.{IsFailed, IsStoreFault}
use Rattle.ob_store.proofs.Serving.{serves_err, serves_ok}
use Rattle.ob_twin.proofs.twin.Twin.get.Goals as goal

pub returns-in-Ok-judge-clause-value : goal.returns-in-Ok-judge-clause-value
returns-in-Ok-judge-clause-value g c = λ tells.
    let tag = g.T.Stamper.tag c.args.stamper.now in
    let old = g.S.Store.disk c.args.store.now in
    subst (λ f. IsRead tag f old.cells (Ok c.in-Ok-judge.number)) c.first-first.ensures
    (c.in-Ok-judge.ensures.read old.cells (c.in-Ok.ensures.body_zero tells) (c.in-Ok.ensures.gate_zero tells) (c.in-Ok.ensures.body_one tells) (c.in-Ok.ensures.gate_one tells))

pub returns-in-Ok-judge-clause-stands : goal.returns-in-Ok-judge-clause-stands
returns-in-Ok-judge-clause-stands g c = λ n tells stands.
    let tag = g.T.Stamper.tag c.args.stamper.now in
    let old = g.S.Store.disk c.args.store.now in
    number_read tag c.first-first.result n old.cells (subst (λ f. StandsAt tag f old.cells n) (sym c.first-first.ensures) stands) c.in-Ok-judge.number
    (c.in-Ok-judge.ensures.read old.cells (c.in-Ok.ensures.body_zero tells) (c.in-Ok.ensures.gate_zero tells) (c.in-Ok.ensures.body_one tells) (c.in-Ok.ensures.gate_one tells))

pub returns-in-Err-judge-clause-value : goal.returns-in-Err-judge-clause-value
returns-in-Err-judge-clause-value g c = λ tells.
    let tag = g.T.Stamper.tag c.args.stamper.now in
    let old = g.S.Store.disk c.args.store.now in
    subst (λ f. IsGot tag f old.cells (Err c.from.result)) c.first-first.ensures
    (subst (λ (x : Fault). IsGot tag c.first-first.result old.cells (Err x)) (sym c.from.ensures)
    (c.in-Err-judge.ensures.read old.cells (c.in-Ok.ensures.body_zero tells) (c.in-Ok.ensures.gate_zero tells) (c.in-Ok.ensures.body_one tells) (c.in-Ok.ensures.gate_one tells)))

pub returns-in-Err-judge-clause-stands : goal.returns-in-Err-judge-clause-stands
returns-in-Err-judge-clause-stands g c = λ n tells stands.
    let tag = g.T.Stamper.tag c.args.stamper.now in
    let old = g.S.Store.disk c.args.store.now in
    absurd (damage_read tag c.first-first.result n old.cells (subst (λ f. StandsAt tag f old.cells n) (sym c.first-first.ensures) stands) c.in-Err-judge.damaged
    (c.in-Err-judge.ensures.read old.cells (c.in-Ok.ensures.body_zero tells) (c.in-Ok.ensures.gate_zero tells) (c.in-Ok.ensures.body_one tells) (c.in-Ok.ensures.gate_one tells)))

pub returns-in-Err-clause-serves : goal.returns-in-Err-clause-serves
returns-in-Err-clause-serves g c = serves_err IsFailed IsStoreFault _ _ _ _ (λ told. tt) c.in-Err.ensures.serves

pub returns-in-Ok-judge-clause-serves : goal.returns-in-Ok-judge-clause-serves
returns-in-Ok-judge-clause-serves g c =
    let read = c.read_register.ensures.serves in
    serves_ok IsStoreFault _ _ _ read.goes read.out c.in-Ok.ensures.serves.tells

pub returns-in-Err-judge-clause-serves : goal.returns-in-Err-judge-clause-serves
returns-in-Err-judge-clause-serves g c =
    let read = c.read_register.ensures.serves in
    record { goes = read.goes; out = read.out; tells = tt; cause = λ blamed. absurd (subst IsStoreFault c.from.ensures blamed) }

pub returns-in-Err-clause-keeps : goal.returns-in-Err-clause-keeps
returns-in-Err-clause-keeps g c = c.read_register.ensures.keeps

pub returns-in-Err-clause-crash : goal.returns-in-Err-clause-crash
returns-in-Err-clause-crash g c = c.read_register.ensures.crash

pub returns-in-Err-clause-passes : goal.returns-in-Err-clause-passes
returns-in-Err-clause-passes g c = c.read_register.ensures.passes

pub returns-in-Ok-judge-clause-keeps : goal.returns-in-Ok-judge-clause-keeps
returns-in-Ok-judge-clause-keeps g c = c.read_register.ensures.keeps

pub returns-in-Ok-judge-clause-crash : goal.returns-in-Ok-judge-clause-crash
returns-in-Ok-judge-clause-crash g c = c.read_register.ensures.crash

pub returns-in-Ok-judge-clause-passes : goal.returns-in-Ok-judge-clause-passes
returns-in-Ok-judge-clause-passes g c = c.read_register.ensures.passes

pub returns-in-Err-judge-clause-keeps : goal.returns-in-Err-judge-clause-keeps
returns-in-Err-judge-clause-keeps g c = c.read_register.ensures.keeps

pub returns-in-Err-judge-clause-crash : goal.returns-in-Err-judge-clause-crash
returns-in-Err-judge-clause-crash g c = c.read_register.ensures.crash

pub returns-in-Err-judge-clause-passes : goal.returns-in-Err-judge-clause-passes
returns-in-Err-judge-clause-passes g c = c.read_register.ensures.passes

-- ---- the gates

pub returns-in-Ok-judge-clause-gates : goal.returns-in-Ok-judge-clause-gates
returns-in-Ok-judge-clause-gates g c = λ tells.
    are_read c.args.self c.args.gates.now c.set_known.new.gates c.first-first.result (g.S.Store.disk c.args.store.now).cells c.is_open.result c.is_open-2.result _ _ c.first-first.ensures c.set_known.ensures
    (c.in-Ok.ensures.gate_zero tells) (c.in-Ok.ensures.gate_one tells) c.is_open.ensures c.is_open-2.ensures

pub returns-in-Err-judge-clause-gates : goal.returns-in-Err-judge-clause-gates
returns-in-Err-judge-clause-gates g c = λ tells.
    subst (λ (f : Fault). IsGates c.args.self c.args.gates.now c.set_known.new.gates (g.S.Store.disk c.args.store.now).cells (Err f)) (sym c.from.ensures)
    (are_read c.args.self c.args.gates.now c.set_known.new.gates c.first-first.result (g.S.Store.disk c.args.store.now).cells c.is_open.result c.is_open-2.result _ _ c.first-first.ensures c.set_known.ensures
    (c.in-Ok.ensures.gate_zero tells) (c.in-Ok.ensures.gate_one tells) c.is_open.ensures c.is_open-2.ensures)

pub returns-in-Err-clause-other : goal.returns-in-Err-clause-other
returns-in-Err-clause-other g c = told_nothing c.args.self c.args.gates.now

pub returns-in-Ok-judge-clause-other : goal.returns-in-Ok-judge-clause-other
returns-in-Ok-judge-clause-other g c = told_alone c.args.self c.args.gates.now c.set_known.new.gates _ c.set_known.ensures

pub returns-in-Err-judge-clause-other : goal.returns-in-Err-judge-clause-other
returns-in-Err-judge-clause-other g c = told_alone c.args.self c.args.gates.now c.set_known.new.gates _ c.set_known.ensures

-- ---- what is told of the reads

all_got : (from first : ℕ) (a b : Option (List Event)) (k l : Trace) → from ≡ first → Tells (get_notes from) (get_notes from) a b k l → Tells (get_notes first) (get_notes first) a b k l
all_got from first a b k l is tells = subst (λ f. Tells (get_notes f) (get_notes f) a b k l) is tells

pub returns-in-Err-clause-does : goal.returns-in-Err-clause-does
returns-in-Err-clause-does g c =
    let old = (g.S.Store.disk c.args.store.now).seen in
    let new = (g.S.Store.disk c.read_register.new.store).seen in
    subst (λ f. TellsFirst (get_notes f) old new (g.W.Watch.trace c.args.watch.now) (g.W.Watch.trace c.read_register.new.watch)) c.first-first.ensures c.in-Err.ensures.does.first

pub returns-in-Ok-judge-clause-does : goal.returns-in-Ok-judge-clause-does
returns-in-Ok-judge-clause-does g c = all_got c.first-first.result (first_of c.args.self) _ _ _ _ c.first-first.ensures c.in-Ok.ensures.does.all

pub returns-in-Err-judge-clause-does : goal.returns-in-Err-judge-clause-does
returns-in-Err-judge-clause-does g c =
    let old = (g.S.Store.disk c.args.store.now).seen in
    let new = (g.S.Store.disk c.read_register.new.store).seen in
    subst (λ (f : Fault). DoesReads {V = Option ℕ} (get_notes (first_of c.args.self)) old new (g.W.Watch.trace c.args.watch.now) (g.W.Watch.trace c.read_register.new.watch) (Err f)) (sym c.from.ensures)
    (all_got c.first-first.result (first_of c.args.self) _ _ _ _ c.first-first.ensures c.in-Ok.ensures.does.all)
