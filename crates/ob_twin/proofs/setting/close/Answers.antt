use Rattle.std.proofs.Common.{◌≡◌, ℕ, Bool, List, [], Ok, if◌then◌else◌, refl, sym, ◌∙◌, subst}
use Rattle.ob_base.specs.declared.fault.Failed.{Failed}
use Rattle.ob_store.specs.Images.{SameBut, LeavesOnly}
use Rattle.ob_store.specs.Told.{Does}
use Rattle.ob_store.proofs.Doing.{tells_none, does_all}
use Rattle.ob_store.proofs.Moments.{started, passed_none}
use Rattle.ob_store.proofs.Serving.{on_ok, on_err}
use Rattle.std.specs.Prelude.{OnOk}
use Rattle.ob_twin.specs.Bodies.{closed_gate}
use Rattle.ob_twin.specs.Clear.{IsWritten}
use Rattle.ob_twin.specs.Register.{IsTornOnly}
use Rattle.ob_twin.specs.Orders.{through_notes}
use Rattle.ob_twin.proofs.Moves.{closed-isnt-open}
use Rattle.ob_twin.proofs.Stops.{if_refused}
use Rattle.ob_twin.proofs.setting.close.Goals as goal

pub returns-then-closes-clause-shut : goal.returns-then-closes-clause-shut
returns-then-closes-clause-shut g c =
    λ tells. on_ok _ _ c.write_out.result (λ put is. closed-isnt-open (sym c.closed_gate.ensures ∙ sym put ∙ is)) (c.write_out.ensures.written tells)

pub returns-then-closes-clause-any_moment : goal.returns-then-closes-clause-any_moment
returns-then-closes-clause-any_moment g c = λ settled.
    let old = g.S.Store.disk c.args.store.now in
    let new = g.S.Store.disk c.write_out.new.store in
    subst (λ (b : Bool). LeavesOnly old new (λ i. IsTornOnly b c.args.gate i old.cells)) (sym c.if-closes.true) (c.write_out.ensures.any_moment settled)

pub returns-clause-any_moment : goal.returns-clause-any_moment
returns-clause-any_moment g c = λ settled.
    let old = g.S.Store.disk c.args.store.now in
    subst (λ (b : Bool). LeavesOnly old old (λ i. IsTornOnly b c.args.gate i old.cells)) (sym c.if-closes.false)
    (started old (λ i. (k : ℕ) → i k ≡ old.cells k) (λ i left. settled i (g.met.S.Store.only_now c.args.store.now i left)) (λ tells k. refl))

pub returns-clause-passes : goal.returns-clause-passes
returns-clause-passes g c = passed_none (g.S.Store.disk c.args.store.now) (SameBut c.args.gate) (λ i k off. refl)

pub returns-then-closes-clause-does : goal.returns-then-closes-clause-does
returns-then-closes-clause-does g c =
    let old = (g.S.Store.disk c.args.store.now).seen in
    let new = (g.S.Store.disk c.write_out.new.store).seen in
    let before = g.W.Watch.trace c.args.watch.now in
    let after = g.W.Watch.trace c.write_out.new.watch in
    subst (λ (b : Bool). Does (if b then through_notes c.args.gate else []) old new before after c.write_out.result) (sym c.if-closes.true) c.write_out.ensures.does

pub returns-clause-does : goal.returns-clause-does
returns-clause-does g c =
    let seen = (g.S.Store.disk c.args.store.now).seen in
    let trace = g.W.Watch.trace c.args.watch.now in
    subst (λ (b : Bool). Does {T = Unit {0}} {E = Failed} (if b then through_notes c.args.gate else []) seen seen trace trace (Ok tt)) (sym c.if-closes.false) (does_all _ _ _ _ [] tt (tells_none seen trace))

pub returns-then-closes-clause-gate : goal.returns-then-closes-clause-gate
returns-then-closes-clause-gate g c = λ tells.
    let old = (g.S.Store.disk c.args.store.now).cells in
    let new = (g.S.Store.disk c.write_out.new.store).cells in
    subst (λ (b : Bool). OnOk c.write_out.result (new c.args.gate ≡ (if b then closed_gate else old c.args.gate))) (sym c.if-closes.true)
    (on_ok _ _ c.write_out.result (λ put. put ∙ c.closed_gate.ensures) (c.write_out.ensures.written tells))

pub returns-clause-gate : goal.returns-clause-gate
returns-clause-gate g c = λ tells.
    let old = (g.S.Store.disk c.args.store.now).cells in
    subst (λ (b : Bool). old c.args.gate ≡ (if b then closed_gate else old c.args.gate)) (sym c.if-closes.false) refl

pub returns-then-closes-clause-refused : goal.returns-then-closes-clause-refused
returns-then-closes-clause-refused g c = λ tells.
    let new = g.S.Store.disk c.write_out.new.store in
    on_err _ _ c.write_out.result
    (λ wrote. record {
      closes_first = c.if-closes.true;
      gate_is = subst (λ (l : List ℕ). IsWritten c.args.gate l new.seen new.cells) c.closed_gate.ensures wrote;
      rest = c.write_out.ensures.rest (c.write_out.ensures.serves.goes.told tells);
    })
    (c.write_out.ensures.refused tells)

-- ---- what it showed

pub returns-then-closes-clause-shown : goal.returns-then-closes-clause-shown
returns-then-closes-clause-shown g c =
    if_refused c.args.gate c.args.closes (g.S.Store.disk c.args.store.now) (g.S.Store.disk c.write_out.new.store) (g.W.Watch.trace c.args.watch.now) (g.W.Watch.trace c.write_out.new.watch) c.write_out.result c.if-closes.true c.write_out.ensures.told
