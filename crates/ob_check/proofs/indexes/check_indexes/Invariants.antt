use Rattle.std.specs.Prelude.{◌≡◌, ◌≤◌, None}
use Rattle.std.specs.List.{flat_map}
use Rattle.ob_base.specs.Tree.{below}
use Rattle.ob_cells.specs.Rules.{first_broken}
use Rattle.ob_check.specs.Rules.{index_rules, ranks_in, shown_in}
use Rattle.ob_check.specs.Marks.{AreMarked}
use Rattle.ob_check.proofs.indexes.check_indexes.Given as goal

abbrev pub invariant-loop-i : goal.invariant-loop-i
invariant-loop-i l = record {
  kept : first_broken (flat_map (index_rules l.p l.bytes l.u) (below l.i)) ≡ None;
  taken : AreMarked 48 l.taken (ranks_in l.p l.bytes l.u l.i);
  shown : l.shown ≡ shown_in l.p l.bytes l.u l.i;
  few : l.shown ≤ l.i;
}
