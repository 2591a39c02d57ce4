use Rattle.std.proofs.Common.{◌≡◌, None}
use Rattle.std.specs.List.{flat_map}
use Rattle.ob_base.specs.Tree.{below}
use Rattle.ob_cells.specs.Rules.{first_broken}
use Rattle.ob_check.specs.Rules.{entry_rules}
use Rattle.ob_check.proofs.entries.check_entries.Given as goal

abbrev pub invariant-loop-k : goal.invariant-loop-k
invariant-loop-k l = first_broken (flat_map (entry_rules l.p l.bytes) (below l.k)) ≡ None
