use Rattle.std.specs.Prelude.{◌≡◌, ◌++◌, map}
use Rattle.ob_base.specs.Tree.{below, bucket_of}
use Rattle.ob_wants.proofs.tree.push_path.Given as goal

abbrev pub invariant-loop-level : goal.invariant-loop-level
invariant-loop-level l = l.list.items ≡ l.initial.list.items ++ map (λ level. bucket_of l.p level l.leaf) (below l.level)
