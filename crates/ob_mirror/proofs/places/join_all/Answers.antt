use Rattle.std.proofs.Common.{subst, sym, ◌∙◌, below_more, arith}
use Rattle.ob_lanes.specs.Hands.{hand_at}
use Rattle.ob_mirror.specs.Reading.{IsPlaceMended, HasPlacesOfJobs, lane_at}
use Rattle.ob_mirror.proofs.Parting.{mended_from, told_still}
use Rattle.ob_mirror.proofs.places.join_all.Goals as goal

pub join_at-requires-clause-within : goal.join_at-requires-clause-within
join_at-requires-clause-within g c =
    let i = c.loop-i.i in
    subst (HasPlacesOfJobs c.args.asked.now) (sym (c.loop-i.invariant.firsts i (omega arith))) (c.requires.within i (omega (arith, c.loop-i-test.true, c.loop-i.invariant.many)))

pub join_at-requires-clause-told : goal.join_at-requires-clause-told
join_at-requires-clause-told g c =
    let i = c.loop-i.i in
    let so_far = c.loop-i.invariant in
    let lt = c.loop-i-test.true in
    told_still g.A.Store.lane_seen g.A.Store.lane_faults g.B.Store.lane_seen c.args.asked.now _ _ _ _ (so_far.firsts i (omega arith)) (so_far.seconds i (omega arith)) (c.requires.told i (omega (arith, lt, so_far.many)))

pub loop-i-preserved : goal.loop-i-preserved
loop-i-preserved g c =
    let i = c.loop-i.i in
    let so_far = c.loop-i.invariant in
    let step = c.join_at.ensures in
    let asked = c.args.asked.now in
    let disk = g.B.Store.disk c.args.store.now in
    let firsts = c.args.firsts.now in
    let seconds = c.args.seconds.now in
    let hands = c.join_at.new.hands in
    record {
      many = step.many ∙ so_far.many;
      many_firsts = step.many_firsts ∙ so_far.many_firsts;
      many_seconds = step.many_seconds ∙ so_far.many_seconds;
      joined = below_more (λ j. IsPlaceMended asked disk g.B.Store.lane_seen g.B.Store.lane_faults (hand_at firsts j) (lane_at seconds j) (hand_at hands j)) i
          (λ j below. subst (λ h. IsPlaceMended asked disk g.B.Store.lane_seen g.B.Store.lane_faults (hand_at firsts j) (lane_at seconds j) h) (sym (step.hands j (λ is. omega arith))) (so_far.joined j below))
          (mended_from asked disk g.B.Store.lane_seen g.B.Store.lane_faults _ _ _ _ _ step.joined (so_far.firsts i (omega arith)) (so_far.seconds i (omega arith)));
      firsts = λ j from. step.firsts j (λ is. omega arith) ∙ so_far.firsts j (omega arith);
      seconds = λ j from. step.seconds j (λ is. omega arith) ∙ so_far.seconds j (omega arith);
    }
