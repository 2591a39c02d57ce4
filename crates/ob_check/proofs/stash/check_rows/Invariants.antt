use Rattle.std.specs.Prelude.{◌≡◌, None, filter, length}
use Rattle.std.specs.List.{flat_map}
use Rattle.ob_base.specs.Tree.{below}
use Rattle.ob_cells.specs.Rules.{first_broken}
use Rattle.ob_check.specs.Rules.{is_loose, row_rules}
use Rattle.ob_check.proofs.stash.check_rows.Given as goal

abbrev pub invariant-loop-k : goal.invariant-loop-k
invariant-loop-k l = record {
  rows : l.i ≡ length (filter (is_loose l.p l.bytes) (below l.k));
  kept : first_broken (flat_map (row_rules l.p l.bytes) (below l.i)) ≡ None;
}
