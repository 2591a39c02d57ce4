use Rattle.std.proofs.Common.{suc, inl, inr, None, refl, Ok, arith, Err, add-one, ap, length, subst, sym, ◌+◌, ◌∙◌}
use Rattle.ob_start.specs.Beginning.{BeginStops, IsSyncedLeft}
use Rattle.ob_start.proofs.Stops.{set_leaves, set_stops, sync_stops}
use Rattle.ob_base.specs.declared.fault.Fault.TheVariants.{StoreFault}
use Rattle.ob_store.specs.Images.{Same}
use Rattle.ob_store.proofs.Events.{none_noted}
use Rattle.ob_store.proofs.Moments.{passed_none}
use Rattle.ob_store.proofs.Doing.{does_all, does_err, sync_cut}
use Rattle.ob_twin.specs.Keyed.{tagging}
use Rattle.ob_twin.specs.Register.{place_of}
use Rattle.ob_twin.specs.Opening.{is_closed_first}
use Rattle.ob_twin.specs.Orders.{set_notes}
use Rattle.ob_twin.proofs.Clear.{both_clear, clear_but, none_clear, set_clear}
use Rattle.ob_store.proofs.Lanes.{first_none}
use Rattle.ob_start.specs.Orders.{begin_notes}
use Rattle.ob_start.proofs.Beginnings.{still, begin_does, begun, next_number, next_stands, begins}
use Rattle.ob_store.specs.Calls.{IsFailed, IsStoreFault}
use Rattle.ob_store.proofs.Serving.{serves_err, serves_ok, serves_then}
use Rattle.ob_store.proofs.Keeping.{serves_none}
use Rattle.ob_twin.specs.declared.twin.Twin.TheVariants.{GENERATION}
use Rattle.ob_twin.specs.Refused.{IsSetFault}
use Rattle.ob_start.proofs.beginning.begin.Goals as goal

pub returns-then-next-ge-NUMBER_LIMIT-clause-does : goal.returns-then-next-ge-NUMBER_LIMIT-clause-does
returns-then-next-ge-NUMBER_LIMIT-clause-does g c =
    let notes = begin_notes c.args.gates.now.generation (suc c.args.generation) in
    does_err _ _ _ _ notes _ (first_none notes _ _ _ (none_noted (g.S.Store.disk c.args.store.now).seen))

pub returns-then-next-ge-NUMBER_LIMIT-clause-leaves : goal.returns-then-next-ge-NUMBER_LIMIT-clause-leaves
returns-then-next-ge-NUMBER_LIMIT-clause-leaves g c = inl (passed_none (g.S.Store.disk c.args.store.now) Same (λ image. refl))

pub returns-in-Err-clause-does : goal.returns-in-Err-clause-does
returns-in-Err-clause-does g c =
    let n = suc c.args.generation in
    let known = c.args.gates.now.generation in
    does_err _ _ _ _ (begin_notes known n) _ (sync_cut (set_notes (is_closed_first known (place_of n)) 1 n) _ _ _ _ c.in-Err.ensures.told)

pub returns-in-Err-clause-leaves : goal.returns-in-Err-clause-leaves
returns-in-Err-clause-leaves g c =
    let e = c.sync_noted.ensures in
    inl (still (g.S.Store.disk c.args.store.now) (g.S.Store.disk c.sync_noted.new.store) e.serves.goes e.time e.crash e.keeps)

pub returns-in-Ok-set-clause-does : goal.returns-in-Ok-set-clause-does
returns-in-Ok-set-clause-does g c =
    let known = c.args.gates.now.generation in
    does_all _ _ _ _ (begin_notes known (suc c.args.generation)) _ (begin_does known c.args.generation
    (g.S.Store.disk c.args.store.now).seen (g.S.Store.disk c.sync_noted.new.store).seen (g.S.Store.disk c.set.new.store).seen (g.W.Watch.trace c.args.watch.now) (g.W.Watch.trace c.sync_noted.new.watch) (g.W.Watch.trace c.set.new.watch) (Ok tt)
    c.in-Ok.ensures.told c.in-Ok-set.ensures.does).all

pub returns-in-Ok-set-clause-stands : goal.returns-in-Ok-set-clause-stands
returns-in-Ok-set-clause-stands g c = λ tells stands.
    let keeps = c.sync_noted.ensures.keeps in
    next_stands (tagging c.args.sealer.now.keys) c.args.generation (g.S.Store.disk c.args.store.now).cells (g.S.Store.disk c.sync_noted.new.store).cells (g.S.Store.disk c.set.new.store).cells
    (omega arith) (keeps.cells tells) stands (c.in-Ok-set.ensures.done (keeps.tells tells))

pub returns-in-Err-set-clause-does : goal.returns-in-Err-set-clause-does
returns-in-Err-set-clause-does g c =
    let known = c.args.gates.now.generation in
    does_err _ _ _ _ (begin_notes known (suc c.args.generation)) (StoreFault None) (begin_does known c.args.generation
    (g.S.Store.disk c.args.store.now).seen (g.S.Store.disk c.sync_noted.new.store).seen (g.S.Store.disk c.set.new.store).seen (g.W.Watch.trace c.args.watch.now) (g.W.Watch.trace c.sync_noted.new.watch) (g.W.Watch.trace c.set.new.watch) (Err c.in-Err-set.field-0)
    c.in-Ok.ensures.told c.in-Err-set.ensures.does).first

pub returns-in-Err-set-clause-leaves : goal.returns-in-Err-set-clause-leaves
returns-in-Err-set-clause-leaves g c =
    let e = c.sync_noted.ensures in
    inr (begins g.S.Store.disk c.args.sealer.now.keys c.args.gates.now.generation c.args.generation c.args.store.now c.sync_noted.new.store c.set.new.store c.set.result c.requires.told c.in-Ok.ensures.told.seen
    (still (g.S.Store.disk c.args.store.now) (g.S.Store.disk c.sync_noted.new.store) e.serves.goes e.time e.crash e.keeps) e.keeps c.in-Ok.ensures.durable c.set.ensures.old_or_new c.set.ensures.moments).0

-- ---- what each of them says of the store

pub returns-then-next-ge-NUMBER_LIMIT-clause-serves : goal.returns-then-next-ge-NUMBER_LIMIT-clause-serves
returns-then-next-ge-NUMBER_LIMIT-clause-serves g c = serves_none IsStoreFault (g.S.Store.disk c.args.store.now) _ (λ blamed. blamed)

pub returns-in-Err-clause-serves : goal.returns-in-Err-clause-serves
returns-in-Err-clause-serves g c = serves_err IsFailed IsStoreFault _ _ _ _ (λ told. tt) c.in-Err.ensures.serves

pub returns-in-Ok-set-clause-serves : goal.returns-in-Ok-set-clause-serves
returns-in-Ok-set-clause-serves g c =
    let synced = c.sync_noted.ensures.serves in
    let set = c.set.ensures.serves in
    serves_then IsStoreFault _ (g.S.Store.disk c.sync_noted.new.store) _ _ synced.goes synced.out c.in-Ok.ensures.serves.tells (serves_ok IsStoreFault _ _ _ set.goes set.out c.in-Ok-set.ensures.serves.tells)

pub returns-in-Ok-set-clause-rest : goal.returns-in-Ok-set-clause-rest
returns-in-Ok-set-clause-rest g c = λ tells k out. c.set.ensures.rest (c.sync_noted.ensures.keeps.tells tells) k out ∙ c.sync_noted.ensures.keeps.cells tells k

pub returns-in-Err-set-clause-serves : goal.returns-in-Err-set-clause-serves
returns-in-Err-set-clause-serves g c =
    let synced = c.sync_noted.ensures.serves in
    serves_then IsStoreFault _ (g.S.Store.disk c.sync_noted.new.store) _ (Err (StoreFault None)) synced.goes synced.out c.in-Ok.ensures.serves.tells
    (serves_err (IsSetFault GENERATION (c.args.generation + 1)) IsStoreFault _ _ c.in-Err-set.field-0 (StoreFault None) (λ told. c.in-Err-set.ensures.faults) c.in-Err-set.ensures.serves)

pub returns-in-Err-set-clause-rest : goal.returns-in-Err-set-clause-rest
returns-in-Err-set-clause-rest g c = λ tells k out. c.set.ensures.rest (c.sync_noted.ensures.keeps.tells tells) k out ∙ c.sync_noted.ensures.keeps.cells tells k

-- ---- in the clear

pub returns-then-next-ge-NUMBER_LIMIT-clause-clear : goal.returns-then-next-ge-NUMBER_LIMIT-clause-clear
returns-then-next-ge-NUMBER_LIMIT-clause-clear g c = λ tells cell low. inl (inl refl)

pub returns-in-Err-clause-clear : goal.returns-in-Err-clause-clear
returns-in-Err-clause-clear g c = λ tells cell low. inl (inl (c.sync_noted.ensures.keeps.cells (c.sync_noted.ensures.serves.goes.told tells) cell))

pub returns-in-Ok-set-clause-clear : goal.returns-in-Ok-set-clause-clear
returns-in-Ok-set-clause-clear g c = λ tells.
    let tag = tagging c.args.sealer.now.keys in
    let old = g.S.Store.disk c.args.store.now in
    let mid = g.S.Store.disk c.sync_noted.new.store in
    let new = g.S.Store.disk c.set.new.store in
    let there = c.set.ensures.serves.goes.told tells in
    let here = c.sync_noted.ensures.serves.goes.told there in
    both_clear tag old.cells mid.cells new.cells (none_clear tag old.cells mid.cells (λ cell low. c.sync_noted.ensures.keeps.cells here cell))
    (set_clear tag GENERATION (c.args.generation + 1) (is_closed_first c.args.gates.now.generation (place_of (c.args.generation + 1))) new.seen mid.cells new.cells (omega arith) (Ok tt) (c.in-Ok-set.ensures.done there) tt)

pub returns-in-Err-set-clause-clear : goal.returns-in-Err-set-clause-clear
returns-in-Err-set-clause-clear g c = λ tells.
    let tag = tagging c.args.sealer.now.keys in
    let old = g.S.Store.disk c.args.store.now in
    let mid = g.S.Store.disk c.sync_noted.new.store in
    let new = g.S.Store.disk c.set.new.store in
    let there = c.set.ensures.serves.goes.told tells in
    let here = c.sync_noted.ensures.serves.goes.told there in
    clear_but tag old.cells mid.cells new.cells (none_clear tag old.cells mid.cells (λ cell low. c.sync_noted.ensures.keeps.cells here cell)) new.seen
    (set_clear tag GENERATION (c.args.generation + 1) (is_closed_first c.args.gates.now.generation (place_of (c.args.generation + 1))) new.seen mid.cells new.cells (omega arith) (Err c.in-Err-set.field-0) tt (c.in-Err-set.ensures.refused tells))

-- ---- what is left of the register, by the notes

pub returns-then-next-ge-NUMBER_LIMIT-clause-stops : goal.returns-then-next-ge-NUMBER_LIMIT-clause-stops
returns-then-next-ge-NUMBER_LIMIT-clause-stops g c = tt

pub returns-in-Err-clause-stops : goal.returns-in-Err-clause-stops
returns-in-Err-clause-stops g c =
    sync_stops c.args.sealer.now.keys c.args.gates.now.generation (suc c.args.generation) (g.S.Store.disk c.args.store.now) (g.S.Store.disk c.sync_noted.new.store) (g.W.Watch.trace c.args.watch.now) (g.W.Watch.trace c.sync_noted.new.watch)
    c.in-Err.ensures.told c.sync_noted.ensures.crash

pub returns-in-Ok-set-clause-stops : goal.returns-in-Ok-set-clause-stops
returns-in-Ok-set-clause-stops g c = λ tells.
    let keys = c.args.sealer.now.keys in
    let old = g.S.Store.disk c.args.store.now in
    let mid = g.S.Store.disk c.sync_noted.new.store in
    let new = g.S.Store.disk c.set.new.store in
    let keeps = c.sync_noted.ensures.keeps in
    subst (λ n. IsSyncedLeft keys n old.cells 0 new.cells) (add-one c.args.generation)
    (set_leaves keys c.args.gates.now.generation (c.args.generation + 1) old new mid keeps (returns-in-Ok-set-clause-rest g c tells) tells (c.in-Ok-set.ensures.done (keeps.tells tells))
    (λ m is stands. next_number keys c.args.generation m old.cells mid.cells new.cells (omega arith) (keeps.cells tells) is (c.in-Ok-set.ensures.done (keeps.tells tells)) stands))

pub returns-in-Err-set-clause-stops : goal.returns-in-Err-set-clause-stops
returns-in-Err-set-clause-stops g c =
    let keys = c.args.sealer.now.keys in
    let known = c.args.gates.now.generation in
    let old = g.S.Store.disk c.args.store.now in
    let mid = g.S.Store.disk c.sync_noted.new.store in
    let new = g.S.Store.disk c.set.new.store in
    let k = g.W.Watch.trace c.args.watch.now in
    let l = g.W.Watch.trace c.sync_noted.new.watch in
    let m = g.W.Watch.trace c.set.new.watch in
    subst (λ n. BeginStops keys known n old new k m (Err (StoreFault None))) (add-one c.args.generation)
    (set_stops keys known (c.args.generation + 1) old new mid k l m c.in-Ok.ensures.told c.sync_noted.ensures.keeps c.in-Ok.ensures.durable c.set.ensures.passes c.in-Err-set.field-0 c.in-Err-set.ensures.does c.in-Err-set.ensures.stops
    (λ image left m is told settled stands. (c.in-Err-set.ensures.old_or_new m (is ∙ sym (add-one m)) told settled stands).each image (g.met.S.Store.counts_now c.set.new.store mid.moment image c.set.ensures.serves.goes.later left)))

-- ---- from its first sync on

pub returns-in-Ok-set-clause-leaves : goal.returns-in-Ok-set-clause-leaves
returns-in-Ok-set-clause-leaves g c =
    let e = c.sync_noted.ensures in
    let from = begins g.S.Store.disk c.args.sealer.now.keys c.args.gates.now.generation c.args.generation c.args.store.now c.sync_noted.new.store c.set.new.store (Ok tt) c.requires.told c.in-Ok.ensures.told.seen
    (still (g.S.Store.disk c.args.store.now) (g.S.Store.disk c.sync_noted.new.store) e.serves.goes e.time e.crash e.keeps) e.keeps c.in-Ok.ensures.durable c.in-Ok-set.ensures.old_or_new c.in-Ok-set.ensures.moments in (
      from.0,
      begun g.S.Store.disk c.args.sealer.now.keys c.args.gates.now.generation c.args.generation c.args.store.now c.sync_noted.new.store c.set.new.store c.requires.told e.keeps c.in-Ok.ensures.durable from.0
          (ap length from.1 ∙ c.in-Ok-set.ensures.moments.stages.many) from.2 (g.met.S.Store.only_now c.set.new.store) (λ tells. c.in-Ok-set.ensures.durable (e.keeps.tells tells)) c.in-Ok-set.ensures.does.seen (returns-in-Ok-set-clause-stops g c),
    )
