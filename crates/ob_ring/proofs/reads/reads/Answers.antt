use Rattle.std.proofs.Common.{arith, ◌∙◌}
use Rattle.std.specs.Prelude.{true, false, ◌+◌, ◌≡◌}
use Rattle.ob_ring.proofs.PlanLaws.{one_counted}
use Rattle.ob_ring.proofs.reads.reads.Goals as goal
use Rattle.ob_ring.proofs.reads.reads.Goals.{then-used-j, else-used-j}

pub loop-j-preserved : goal.loop-j-preserved
loop-j-preserved c = elim c.if-used-j.branch [
  | then-used-j w ↦ (one_counted c.used-used.result.now c.loop-j.j c.loop-j.many c.if-used-j.many true c.loop-j.invariant.0 w.if-used-j.true w.many-is, omega (arith, c.loop-j.invariant.1, w.many-is))
  | else-used-j w ↦ (one_counted c.used-used.result.now c.loop-j.j c.loop-j.many c.if-used-j.many false c.loop-j.invariant.0 w.if-used-j.false (w.many-is ∙ (let z : c.loop-j.many ≡ c.loop-j.many + 0 = omega arith in z)), omega (arith, c.loop-j.invariant.1, w.many-is))
]
