use Rattle.std.specs.Prelude.{◌≡◌, ◌≤◌, filter, length}
use Rattle.ob_base.specs.Tree.{below}
use Rattle.ob_check.specs.Rules.{is_loose}
use Rattle.ob_check.proofs.stash.count_loose.Given as goal

abbrev pub invariant-loop-k : goal.invariant-loop-k
invariant-loop-k l = record {
  many : l.many ≡ length (filter (is_loose l.p l.bytes) (below l.k));
  few : l.many ≤ l.k;
}
