use Rattle.std.specs.Prelude.{◌≡◌, ◌≤◌, take, count_by}
use Rattle.ob_base.specs.Tree.{passes}
use Rattle.ob_wants.proofs.tree.passing.Given as goal

abbrev pub invariant-loop-leaf : goal.invariant-loop-leaf
invariant-loop-leaf l = (l.many ≡ count_by (passes l.p l.bucket) (take l.leaf-index l.leaves)) × (l.many ≤ l.leaf-index)
