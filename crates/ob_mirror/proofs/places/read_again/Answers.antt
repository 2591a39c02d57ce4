use Rattle.std.proofs.Common.{◌≡◌, ◌<◌, ◌++◌, subst, sym, ◌∙◌, ap, below_more, arith, length}
use Rattle.std.proofs.lemmas.List.{take_all}
use Rattle.ob_lanes.specs.Hands.{slot_places, reads_of, slot_at}
use Rattle.ob_lanes.proofs.SlotReads.{rose_from, rose_on}
use Rattle.ob_store.specs.Calls.{Notes}
use Rattle.ob_mirror.specs.Reading.{IsMended, failed_in, with_refusals}
use Rattle.ob_mirror.proofs.Again.{failed_more, log_more, mended_on, reads_more}
use Rattle.ob_mirror.proofs.places.read_again.Goals as goal

pub again_at-requires-clause-within : goal.again_at-requires-clause-within
again_at-requires-clause-within g c =
    let i = c.loop-i.i in
    let so_far = c.loop-i.invariant in
    let lt : i < length c.args.part.now = (let t = c.loop-i-test.true in let m = so_far.many in omega (arith, t, m)) in
    subst (λ s. s.place < length c.args.asked.now.jobs.now) (sym (so_far.left i (omega arith))) (c.requires.within i lt)

pub loop-i-preserved : goal.loop-i-preserved
loop-i-preserved g c =
    let i = c.loop-i.i in
    let so_far = c.loop-i.invariant in
    let step = c.again_at.ensures in
    let disk = g.B.Store.disk c.args.store.now in
    let asked = c.args.asked.now in
    let faults = g.B.Store.lane_faults in
    let first = faults c.args.second.now.lane in
    let mid = faults c.loop-i.second.lane in
    let last = faults c.again_at.new.second.lane in
    let all = c.args.part.now in
    let old = c.loop-i.part in
    let new = c.again_at.new.part in
    let same = so_far.left i (omega arith) in
    record {
      many = step.many ∙ so_far.many;
      mended = below_more (λ j. IsMended asked disk first last (slot_at all j) (slot_at new j)) i
          (λ j below. subst (λ s. IsMended asked disk first last (slot_at all j) s) (sym (step.others j (λ is. omega arith)))
          (mended_on asked disk first mid first last _ _ (rose_on first mid last step.later) (so_far.mended j below)))
          (subst (λ s. IsMended asked disk first last s (slot_at new i)) same (mended_on asked disk mid last first last _ _ (rose_from first mid last so_far.later) step.mended));
      left = λ j from. step.others j (λ is. omega arith) ∙ so_far.left j (omega arith);
      reads = reads_more asked all i (slot_at old i) _ _ _ (let t = c.loop-i-test.true in let m = so_far.many in omega (arith, t, m)) same so_far.reads step.reads;
      later = (let a = so_far.later in let b = step.later in omega (arith, a, b));
      failed = failed_more i old new (slot_at new i) _ _ _ step.front so_far.failed step.failed;
      log = log_more asked all i (slot_at old i) _ _ _ (let t = c.loop-i-test.true in let m = so_far.many in omega (arith, t, m)) same so_far.log step.log;
    }

pub returns : goal.returns
returns g c =
    let so_far = c.loop-i.invariant in
    let whole : c.loop-i.i ≡ length c.args.part.now = omega (arith, c.loop-i-test.false, c.loop-i.auto.i-end) in
    record {
      many = so_far.many;
      each = λ j lt. so_far.mended j (omega (arith, whole, lt));
      reads = subst (λ l. Notes (reads_of c.args.asked.now (slot_places (failed_in l))) (g.B.Store.lane_seen c.args.second.now.lane) (g.B.Store.lane_seen c.loop-i.second.lane)) (take_all c.loop-i.i c.args.part.now (omega (arith, whole))) so_far.reads;
      later = so_far.later;
      few = omega arith;
      log = so_far.log ∙ ap (λ l. c.args.second.now.reads.events ++ reads_of c.args.asked.now (slot_places l)) (take_all c.loop-i.i c.args.part.now (omega (arith, whole)));
      failed = (let m = so_far.many in so_far.failed ∙ ap (λ l. with_refusals l c.args.second.now.failed) (take_all c.loop-i.i c.loop-i.part (omega (arith, whole, m))));
    }
