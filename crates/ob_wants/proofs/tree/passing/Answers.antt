use Rattle.ob_base.specs.Tree.{passes}
use Rattle.ob_wants.proofs.TotalLaws.{counted_next}
use Rattle.ob_wants.proofs.tree.passing.Goals as goal

pub loop-leaf-preserved : goal.loop-leaf-preserved
loop-leaf-preserved c = counted_next (passes c.args.p.now c.args.bucket) c.args.leaves.now c.loop-leaf.leaf-index _ c.passes.result c.loop-leaf-test.true c.passes.ensures c.loop-leaf.invariant.0 c.loop-leaf.invariant.1
