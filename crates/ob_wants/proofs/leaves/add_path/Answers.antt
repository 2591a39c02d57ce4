use Rattle.std.proofs.Common.{◌∙◌, arith}
use Rattle.ob_wants.proofs.TotalLaws.{read_more}
use Rattle.ob_wants.proofs.leaves.add_path.Goals as goal

pub loop-level-preserved : goal.loop-level-preserved
loop-level-preserved c = (
  c.add_pass.ensures.same ∙ c.loop-level.invariant.0,
  λ u lt. read_more c.args.p.now c.args.leaf c.loop-level.level u c.bucket_on.result _ _ _ (omega arith) c.bucket_on.ensures (c.loop-level.invariant.1 u lt) (c.add_pass.ensures.more u (omega (arith, lt, c.loop-level.invariant.0))),
)
