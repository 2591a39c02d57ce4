use Rattle.std.proofs.Common.{arith, ◌≤◌}
use Rattle.ob_base.proofs.TreeLaws.{one_shifted, bucket_within}
use Rattle.ob_base.proofs.tree.bucket_of.Goals as goal

pub returns-clause-within : goal.returns-clause-within
returns-clause-within c =
    let few : c.args.level ≤ 16 = omega (arith, c.requires.level, c.args.p.now.in_range.few_levels) in
    omega (arith, one_shifted c.args.level few, bucket_within c.args.p.now c.args.level c.args.leaf c.requires.level c.requires.leaf)
