use Rattle.std.proofs.Common.{arith}
use Rattle.ob_base.specs.Tree.{buckets}
use Rattle.ob_base.proofs.TreeLaws.{two_shifted}
use Rattle.ob_base.proofs.tree.buckets.Goals as goal

pub returns-clause-buckets : goal.returns-clause-buckets
unfolding buckets
returns-clause-buckets c = omega (arith, two_shifted c.args.p.now.levels c.args.p.now.in_range.few_levels)
