use Rattle.std.proofs.Common.{◌≡◌, Result, IfOk, IfErr, OnOk, None, sym, subst}
use Rattle.ob_base.specs.declared.fault.Fault.{Fault}
use Rattle.ob_base.specs.declared.fault.Fault.TheVariants.{StoreFault}
use Rattle.ob_store.specs.Calls.{Serves, IsStoreFault}
use Rattle.ob_store.specs.Told.{Does}
use Rattle.ob_twin.specs.Register.{first_of}
use Rattle.ob_twin.specs.Opening.{known_of, HasOpen}
use Rattle.ob_twin.specs.Orders.{get_notes}
use Rattle.ob_start.specs.declared.registers.Register.{Register}
use Rattle.ob_start.specs.Registers.{IsRegister, IsNumber, IsBelow, KnowsGates}
use Rattle.ob_start.proofs.Holding.{held_serves, held_refused, held_value, held_below, held_gates, held_some, held_does}
use Rattle.ob_start.proofs.registers.read_register.Goals as goal

pub returns-clause-serves : goal.returns-clause-serves
returns-clause-serves g c =
    let old = g.S.Store.disk c.args.store.now in
    let new = g.S.Store.disk c.get.new.store in
    subst (λ (r : Result Register Fault). Serves IsStoreFault old new r) (sym c.held_back.ensures) (held_serves old new c.get.result c.get.ensures.faults c.get.ensures.serves c.get.ensures.keeps.tells)

pub returns-clause-faults : goal.returns-clause-faults
returns-clause-faults g c = subst (λ (r : Result Register Fault). IfErr r (λ refused. refused ≡ StoreFault None)) (sym c.held_back.ensures) (held_refused c.get.result c.get.ensures.faults)

pub returns-clause-value : goal.returns-clause-value
returns-clause-value g c = λ tells.
    let keys = c.args.sealer.now.keys in
    let cells = (g.S.Store.disk c.args.store.now).cells in
    subst (λ (r : Result Register Fault). IfOk r (IsRegister keys (first_of c.args.twin) cells)) (sym c.held_back.ensures) (held_value keys (first_of c.args.twin) cells c.get.result c.get.ensures.faults (c.get.ensures.value tells))

pub returns-clause-below : goal.returns-clause-below
returns-clause-below g c = subst (λ (r : Result Register Fault). IfOk r IsBelow) (sym c.held_back.ensures) (held_below c.get.result c.get.ensures.faults c.get.ensures.below)

pub returns-clause-gates : goal.returns-clause-gates
returns-clause-gates g c = λ tells.
    let cells = (g.S.Store.disk c.args.store.now).cells in
    subst (λ (r : Result Register Fault). OnOk r (KnowsGates c.args.twin c.args.gates.now c.get.new.gates cells)) (sym c.held_back.ensures)
    (held_gates c.args.twin c.args.gates.now c.get.new.gates cells c.get.result c.get.ensures.faults (c.get.ensures.gates tells))

pub returns-clause-some : goal.returns-clause-some
returns-clause-some g c =
    subst (λ (r : Result Register Fault). IfOk r (λ register. IsNumber register → HasOpen (known_of c.args.twin c.get.new.gates))) (sym c.held_back.ensures)
    (held_some c.args.twin c.get.new.gates c.get.result c.get.ensures.faults c.get.ensures.some)

pub returns-clause-does : goal.returns-clause-does
returns-clause-does g c =
    let notes = get_notes (first_of c.args.twin) in
    let old = (g.S.Store.disk c.args.store.now).seen in
    let new = (g.S.Store.disk c.get.new.store).seen in
    let before = g.W.Watch.trace c.args.watch.now in
    let after = g.W.Watch.trace c.get.new.watch in
    subst (λ (r : Result Register Fault). Does notes old new before after r) (sym c.held_back.ensures) (held_does notes old new before after c.get.result c.get.ensures.faults c.get.ensures.does)
