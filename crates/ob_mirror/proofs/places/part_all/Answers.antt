use Rattle.std.proofs.Common.{subst, ◌∙◌, below_more, arith}
use Rattle.ob_lanes.specs.Hands.{hand_at}
use Rattle.ob_mirror.specs.Reading.{IsParted, TellLanes, lane_at}
use Rattle.ob_mirror.proofs.Parting.{lanes_still, parted_still}
use Rattle.ob_mirror.proofs.places.part_all.Goals as goal

pub loop-i-preserved : goal.loop-i-preserved
loop-i-preserved g c =
    let i = c.loop-i.i in
    let so_far = c.loop-i.invariant in
    let step = c.part_at.ensures in
    let seen_a = g.A.Store.lane_seen in
    let faults_a = g.A.Store.lane_faults in
    let seen_b = g.B.Store.lane_seen in
    let initial = c.args.hands.now in
    let firsts = c.part_at.new.firsts in
    let seconds = c.part_at.new.seconds in
    record {
      many = step.many ∙ so_far.many;
      many_firsts = step.many_firsts ∙ so_far.many_firsts;
      many_seconds = step.many_seconds ∙ so_far.many_seconds;
      parted = below_more (λ j. IsParted (hand_at initial j) (hand_at firsts j) (lane_at seconds j)) i
          (λ j below. parted_still _ _ _ _ _ (so_far.parted j below) (step.firsts j (λ is. omega arith)) (step.seconds j (λ is. omega arith)))
          (subst (λ h. IsParted h (hand_at firsts i) (lane_at seconds i)) (so_far.left i (omega arith)) step.parted);
      told = below_more (λ j. TellLanes seen_a faults_a seen_b (hand_at firsts j) (lane_at seconds j)) i
          (λ j below. lanes_still seen_a faults_a seen_b _ _ _ _ (step.firsts j (λ is. omega arith)) (step.seconds j (λ is. omega arith)) (so_far.told j below)) step.told;
      left = λ j from. step.hands j (λ is. omega arith) ∙ so_far.left j (omega arith);
    }

pub returns-clause-many_firsts : goal.returns-clause-many_firsts
returns-clause-many_firsts g c = c.loop-i.invariant.many_firsts ∙ c.requires.firsts
