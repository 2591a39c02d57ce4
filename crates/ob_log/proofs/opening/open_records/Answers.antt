use Rattle.std.proofs.Common.{◌+◌, ◌∷◌, [], Ok, Err, length, arith, ap, length-append, refl, sym, ◌∙◌, subst}
use Rattle.ob_log.proofs.Opens.{SoFar, so_far_more, ends_closed, ends_all, ends_broken, gate_at, found}
use Rattle.ob_log.proofs.opening.open_records.Goals as goal

pub returns-then-not-is_shown : goal.returns-then-not-is_shown
returns-then-not-is_shown c = λ image holds.
    ends_closed c.args.sealer.now.keys c.args.p.now c.args.epoch image c.loop-batch.batch c.loop-batch.records.items (c.loop-batch.invariant.so_far image holds) c.loop-batch-test.true
    (λ opened. c.if-not-is_shown.ensures (sym (gate_at c.args.p.now c.args.epoch c.args.base c.args.cells.now image c.requires.base c.requires.area holds c.loop-batch.batch c.loop-batch-test.true) ∙ opened))

pub returns-in-Err : goal.returns-in-Err
returns-in-Err c = λ image holds.
    ends_broken c.args.sealer.now.keys c.args.p.now c.args.epoch image c.loop-batch.batch c.loop-batch.records.items c.in-Err.damaged (c.loop-batch.invariant.so_far image holds) c.loop-batch-test.true
    (gate_at c.args.p.now c.args.epoch c.args.base c.args.cells.now image c.requires.base c.requires.area holds c.loop-batch.batch c.loop-batch-test.true ∙ c.if-not-is_shown.ensures)
    (found c.args.p.now c.args.epoch c.args.base c.args.cells.now image c.requires.base c.requires.area holds c.args.sealer.now.keys c.loop-batch.batch (c.args.base + c.place_of.result) c.place_of.result c.body_of.result.now
    (Err c.in-Err.damaged) c.loop-batch-test.true c.place_of.ensures.place refl c.body_of.ensures.cells c.in-Err.ensures.value)

pub keep-requires : goal.keep-requires
keep-requires c = omega (arith, c.loop-batch.invariant.many, c.loop-batch-test.true, c.loop-batch.invariant.capacity)

pub loop-batch-preserved : goal.loop-batch-preserved
loop-batch-preserved c = record {
  so_far = λ image holds.
      subst (λ rs. SoFar c.args.sealer.now.keys c.args.p.now c.args.epoch (c.loop-batch.batch + 1) rs image) (sym c.keep.ensures.items)
      (so_far_more c.args.sealer.now.keys c.args.p.now c.args.epoch image c.loop-batch.batch c.loop-batch.records.items c.in-Ok.record (c.loop-batch.invariant.so_far image holds)
      (gate_at c.args.p.now c.args.epoch c.args.base c.args.cells.now image c.requires.base c.requires.area holds c.loop-batch.batch c.loop-batch-test.true ∙ c.if-not-is_shown.ensures)
      (found c.args.p.now c.args.epoch c.args.base c.args.cells.now image c.requires.base c.requires.area holds c.args.sealer.now.keys c.loop-batch.batch (c.args.base + c.place_of.result) c.place_of.result c.body_of.result.now
      (Ok c.in-Ok.record) c.loop-batch-test.true c.place_of.ensures.place refl c.body_of.ensures.cells c.in-Ok.ensures.value));
  many = ap length c.keep.ensures.items ∙ length-append c.loop-batch.records.items (c.in-Ok.record ∷ []) ∙ ap (λ n. n + 1) c.loop-batch.invariant.many;
  capacity = omega (arith, c.keep.ensures.capacity, c.loop-batch.invariant.capacity);
  room = omega (arith, c.read_body.ensures.room, c.loop-batch.invariant.room);
}

pub returns : goal.returns
returns c = λ image holds.
    ends_all c.args.sealer.now.keys c.args.p.now c.args.epoch image c.loop-batch.batch c.loop-batch.records.items (c.loop-batch.invariant.so_far image holds) c.loop-batch.auto.batch-end c.loop-batch-test.false
