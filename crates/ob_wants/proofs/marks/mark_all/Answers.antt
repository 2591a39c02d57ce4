use Rattle.std.proofs.Common.{◌∙◌, arith}
use Rattle.ob_wants.proofs.TotalLaws.{mark_more}
use Rattle.ob_wants.proofs.marks.mark_all.Goals as goal

pub loop-bucket-preserved : goal.loop-bucket-preserved
loop-bucket-preserved c = (
  c.mark.ensures.same ∙ c.loop-bucket.invariant.0,
  λ u lt none. mark_more c.args.list.now c.loop-bucket.bucket-index u _ _ (omega arith) (c.loop-bucket.invariant.1 u lt none) (c.mark.ensures.more u (omega (arith, lt, c.loop-bucket.invariant.0))),
)
