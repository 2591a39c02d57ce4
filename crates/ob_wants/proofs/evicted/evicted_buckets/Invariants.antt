use Rattle.std.specs.Prelude.{◌≡◌, ◌+◌}
use Rattle.ob_base.specs.Tree.{below}
use Rattle.std.specs.List.{flat_map}
use Rattle.ob_base.specs.Tree.{path, reversed}
use Rattle.ob_wants.proofs.evicted.evicted_buckets.Given as goal

abbrev pub invariant-loop-i : goal.invariant-loop-i
invariant-loop-i l = l.list.items ≡ flat_map (λ i. path l.p (reversed l.p.levels (l.counter + i))) (below l.i)
