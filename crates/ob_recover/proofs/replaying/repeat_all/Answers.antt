use Rattle.std.proofs.Common.{Ok, Err, ◌∙◌, ap, arith, length, subst, sym, ◌≤◌, refl}
use Rattle.ob_base.specs.declared.params.Params.{Params}
use Rattle.ob_cells.specs.Jobs.{Manned}
use Rattle.ob_store.specs.Calls.{IsStoreFault}
use Rattle.ob_store.proofs.Serving.{goes_then, serves_then, goes_same, serves_ok}
use Rattle.ob_ring.specs.Ring.{Kept}
use Rattle.ob_recover.proofs.FindLaws.{keeps_both, reads_both}
use Rattle.ob_log.specs.Logs.{BatchRecord, RecordFits, nothing}
use Rattle.ob_recover.proofs.ShowLaws.{get_same}
use Rattle.ob_recover.proofs.ReplayLaws.{OneRepeat, at_record, all_read, all_repeated, all_told, told_by, refused_does, refused_value, repeated, none_repeated}
use Rattle.ob_base.specs.Planned.{most_jobs}
use Rattle.ob_store.specs.Images.{Same}
use Rattle.ob_store.proofs.Moments.{passed_none}
use Rattle.ob_recover.proofs.replaying.repeat_all.Goals as goal

pub repeat_batch-requires-clause-fits : goal.repeat_batch-requires-clause-fits
repeat_batch-requires-clause-fits g c κs within =
    let o = c.args.ring.now in
    let at = c.index-records-i.is ∙ get_same c.args.records.now c.loop-i.i c.index-records-i.result nothing c.loop-i-test.true in
    (c.loop-i.i, subst (λ (q : Params). RecordFits q c.loop-i.i c.index-records-i.result) (sym c.loop-i.invariant.so_far.params) (subst (λ (r : BatchRecord). RecordFits o.p c.loop-i.i r) (sym at) (c.requires.fits.each c.loop-i.i c.loop-i-test.true)))

pub returns-in-Err-clause-serves : goal.returns-in-Err-clause-serves
returns-in-Err-clause-serves g c =
    let inv = c.loop-i.invariant in
    serves_then IsStoreFault (g.S.Store.disk c.args.store.now) (g.S.Store.disk c.loop-i.store) (g.S.Store.disk c.repeat_batch.new.store) (Err c.in-Err.fault) inv.goes inv.out (λ t. inv.keeps.tells t) c.in-Err.ensures.serves

pub returns-in-Err-clause-passes : goal.returns-in-Err-clause-passes
returns-in-Err-clause-passes g c =
    reads_both (g.S.Store.disk c.args.store.now) (g.S.Store.disk c.loop-i.store) (g.S.Store.disk c.repeat_batch.new.store) c.loop-i.invariant.passes c.repeat_batch.ensures.passes

pub returns-in-Err-clause-value : goal.returns-in-Err-clause-value
returns-in-Err-clause-value g c = λ tells.
    let inv = c.loop-i.invariant in
    let o = c.args.ring.now in
    let e = c.in-Err.ensures in
    let one : OneRepeat c.args.sealer.now.keys c.loop-i.ring.p c.args.crew.now.lanes (g.S.Store.disk c.loop-i.store) (g.S.Store.disk c.repeat_batch.new.store) (g.W.Watch.trace c.loop-i.watch) (g.W.Watch.trace c.repeat_batch.new.watch)
    c.loop-i.ring c.repeat_batch.new.ring c.index-records-i.result (Err c.in-Err.fault) = record {
      params = ap (λ (r : Kept). r.p) e.kept;
      counter = ap (λ (r : Kept). r.counter) e.kept;
      room = e.room;
      entries = e.entries;
      seals = e.seals;
      table = e.table;
      value = e.value;
      joins = e.joins;
      told = λ start t seals stands. told_by (ap (λ (m : Manned). m.lanes) inv.crew) _ _ _ _ _ _ (Err c.in-Err.fault) (e.told start t seals stands);
    } in
    refused_value c.args.sealer.now.keys o c.args.crew.now.lanes c.args.records.now c.loop-i.i c.loop-i-test.true (g.S.Store.disk c.args.store.now) (g.S.Store.disk c.loop-i.store) (g.S.Store.disk c.repeat_batch.new.store)
    (g.W.Watch.trace c.args.watch.now) (g.W.Watch.trace c.loop-i.watch) (g.W.Watch.trace c.repeat_batch.new.watch) c.loop-i.ring c.repeat_batch.new.ring inv.so_far (inv.so_far.seals.order ∙ c.requires.unlisted) inv.keeps
    c.repeat_batch.new.ring.stash.rows c.in-Err.fault e.faults (at_record (c.index-records-i.is ∙ get_same c.args.records.now c.loop-i.i c.index-records-i.result nothing c.loop-i-test.true) one) tells

pub returns-in-Err-clause-does : goal.returns-in-Err-clause-does
returns-in-Err-clause-does g c =
    let inv = c.loop-i.invariant in
    let o = c.args.ring.now in
    let e = c.in-Err.ensures in
    let one : OneRepeat c.args.sealer.now.keys c.loop-i.ring.p c.args.crew.now.lanes (g.S.Store.disk c.loop-i.store) (g.S.Store.disk c.repeat_batch.new.store) (g.W.Watch.trace c.loop-i.watch) (g.W.Watch.trace c.repeat_batch.new.watch)
    c.loop-i.ring c.repeat_batch.new.ring c.index-records-i.result (Err c.in-Err.fault) = record {
      params = ap (λ (r : Kept). r.p) e.kept;
      counter = ap (λ (r : Kept). r.counter) e.kept;
      room = e.room;
      entries = e.entries;
      seals = e.seals;
      table = e.table;
      value = e.value;
      joins = e.joins;
      told = λ start t seals stands. told_by (ap (λ (m : Manned). m.lanes) inv.crew) _ _ _ _ _ _ (Err c.in-Err.fault) (e.told start t seals stands);
    } in
    refused_does c.args.sealer.now.keys o c.args.crew.now.lanes c.args.records.now c.loop-i.i c.loop-i-test.true (g.S.Store.disk c.args.store.now) (g.S.Store.disk c.loop-i.store) (g.S.Store.disk c.repeat_batch.new.store)
    (g.W.Watch.trace c.args.watch.now) (g.W.Watch.trace c.loop-i.watch) (g.W.Watch.trace c.repeat_batch.new.watch) c.loop-i.ring c.repeat_batch.new.ring inv.so_far (inv.so_far.seals.order ∙ c.requires.unlisted) inv.keeps
    c.in-Err.fault e.faults (at_record (c.index-records-i.is ∙ get_same c.args.records.now c.loop-i.i c.index-records-i.result nothing c.loop-i-test.true) one)

pub loop-i-preserved : goal.loop-i-preserved
loop-i-preserved g c =
    let inv = c.loop-i.invariant in
    let o = c.args.ring.now in
    let e = c.in-Ok.ensures in
    let old = g.S.Store.disk c.args.store.now in
    let mid = g.S.Store.disk c.loop-i.store in
    let new = g.S.Store.disk c.repeat_batch.new.store in
    let one : OneRepeat c.args.sealer.now.keys c.loop-i.ring.p c.args.crew.now.lanes mid new (g.W.Watch.trace c.loop-i.watch) (g.W.Watch.trace c.repeat_batch.new.watch)
    c.loop-i.ring c.repeat_batch.new.ring c.index-records-i.result (Ok tt) = record {
      params = ap (λ (r : Kept). r.p) e.kept;
      counter = ap (λ (r : Kept). r.counter) e.kept;
      room = e.room;
      entries = e.entries;
      seals = e.seals;
      table = e.table;
      value = e.value;
      joins = e.joins;
      told = λ start t seals stands. told_by (ap (λ (m : Manned). m.lanes) inv.crew) _ _ _ _ _ _ (Ok tt) (e.told start t seals stands);
    } in
    record {
      goes = goes_then old mid new inv.goes e.serves.goes;
      out = (let a = inv.out in let b = e.serves.out in omega arith);
      keeps = keeps_both old mid new inv.keeps e.keeps;
      passes = reads_both old mid new inv.passes e.passes;
      crew = e.crew ∙ inv.crew;
      room = e.rooms.0 ∙ inv.room;
      place_room = e.rooms.1 ∙ inv.place_room;
      fit = λ was. e.fit (inv.fit was);
      so_far = repeated c.args.sealer.now.keys o c.args.crew.now.lanes c.args.records.now c.loop-i.i c.loop-i-test.true old mid new
          (g.W.Watch.trace c.args.watch.now) (g.W.Watch.trace c.loop-i.watch) (g.W.Watch.trace c.repeat_batch.new.watch) c.loop-i.ring c.repeat_batch.new.ring inv.so_far (inv.so_far.seals.order ∙ c.requires.unlisted) inv.keeps
          (at_record (c.index-records-i.is ∙ get_same c.args.records.now c.loop-i.i c.index-records-i.result nothing c.loop-i-test.true) one);
    }

pub loop-i-init : goal.loop-i-init
loop-i-init g c =
    let disk = g.S.Store.disk c.args.store.now in
    record {
      goes = goes_same disk;
      out = omega arith;
      keeps = record { tells = λ tells. tells; cells = λ tells k. refl };
      passes = passed_none disk Same (λ image. refl);
      crew = refl;
      room = refl;
      place_room = refl;
      fit = λ fit. fit;
      so_far = none_repeated c.args.sealer.now.keys c.args.ring.now c.args.crew.now.lanes c.args.records.now disk (g.W.Watch.trace c.args.watch.now) c.requires.stands;
    }

pub returns-in-Err-clause-faults : goal.returns-in-Err-clause-faults
returns-in-Err-clause-faults g c = c.in-Err.ensures.faults

pub returns-in-Err-clause-keeps : goal.returns-in-Err-clause-keeps
returns-in-Err-clause-keeps g c = keeps_both _ (g.S.Store.disk c.loop-i.store) _ c.loop-i.invariant.keeps c.repeat_batch.ensures.keeps

pub returns-in-Err-clause-crew : goal.returns-in-Err-clause-crew
returns-in-Err-clause-crew g c = c.repeat_batch.ensures.crew ∙ c.loop-i.invariant.crew

pub returns-in-Err-clause-rooms : goal.returns-in-Err-clause-rooms
returns-in-Err-clause-rooms g c = (c.repeat_batch.ensures.rooms.0 ∙ c.loop-i.invariant.room, c.repeat_batch.ensures.rooms.1 ∙ c.loop-i.invariant.place_room)

pub repeat_batch-requires-clause-stands : goal.repeat_batch-requires-clause-stands
repeat_batch-requires-clause-stands g c κs within = (_, c.loop-i.invariant.so_far.table)

pub repeat_batch-requires-clause-jobs : goal.repeat_batch-requires-clause-jobs
repeat_batch-requires-clause-jobs g c κs within =
    let ps = sym c.loop-i.invariant.so_far.params in
    (c.loop-i.invariant.room ∙ c.requires.jobs.0 ∙ ap most_jobs ps, c.loop-i.invariant.place_room ∙ c.requires.jobs.1 ∙ ap (λ (q : Params). q.places) ps)

pub repeat_batch-requires-clause-crew : goal.repeat_batch-requires-clause-crew
repeat_batch-requires-clause-crew g c κs within = subst (λ (q : Params). most_jobs q ≤ c.loop-i.crew.jobs) (sym c.loop-i.invariant.so_far.params) (subst (λ (m : Manned). most_jobs c.args.ring.now.p ≤ m.jobs) (sym c.loop-i.invariant.crew) c.requires.crew)

pub returns-clause-serves : goal.returns-clause-serves
returns-clause-serves g c =
    let inv = c.loop-i.invariant in
    serves_ok IsStoreFault _ _ tt inv.goes inv.out inv.keeps.tells

pub returns-clause-keeps : goal.returns-clause-keeps
returns-clause-keeps g c = c.loop-i.invariant.keeps

pub returns-clause-passes : goal.returns-clause-passes
returns-clause-passes g c = c.loop-i.invariant.passes

pub returns-clause-crew : goal.returns-clause-crew
returns-clause-crew g c = c.loop-i.invariant.crew

pub returns-clause-rooms : goal.returns-clause-rooms
returns-clause-rooms g c = (c.loop-i.invariant.room, c.loop-i.invariant.place_room)

pub returns-clause-fit : goal.returns-clause-fit
returns-clause-fit g c = c.loop-i.invariant.fit

pub returns-clause-repeated : goal.returns-clause-repeated
returns-clause-repeated g c =
    let all : length c.args.records.now ≤ c.loop-i.i = omega (arith, c.loop-i-test.false) in
    all_repeated c.args.sealer.now.keys c.args.ring.now c.args.crew.now.lanes c.args.records.now c.loop-i.i (g.S.Store.disk c.args.store.now) (g.S.Store.disk c.loop-i.store) (g.W.Watch.trace c.args.watch.now) (g.W.Watch.trace c.loop-i.watch) c.loop-i.ring
    all c.loop-i.invariant.so_far

pub returns-clause-value : goal.returns-clause-value
returns-clause-value g c =
    let all : length c.args.records.now ≤ c.loop-i.i = omega (arith, c.loop-i-test.false) in
    all_read c.args.sealer.now.keys c.args.ring.now c.args.crew.now.lanes c.args.records.now c.loop-i.i (g.S.Store.disk c.args.store.now) (g.S.Store.disk c.loop-i.store) (g.W.Watch.trace c.args.watch.now) (g.W.Watch.trace c.loop-i.watch) c.loop-i.ring
    all c.loop-i.invariant.so_far

pub returns-clause-does : goal.returns-clause-does
returns-clause-does g c =
    let all : length c.args.records.now ≤ c.loop-i.i = omega (arith, c.loop-i-test.false) in
    all_told c.args.sealer.now.keys c.args.ring.now c.args.crew.now.lanes c.args.records.now c.loop-i.i (g.S.Store.disk c.args.store.now) (g.S.Store.disk c.loop-i.store) (g.W.Watch.trace c.args.watch.now) (g.W.Watch.trace c.loop-i.watch) c.loop-i.ring
    all c.loop-i.invariant.so_far
