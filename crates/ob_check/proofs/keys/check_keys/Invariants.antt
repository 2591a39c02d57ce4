use Rattle.std.specs.Prelude.{◌≡◌, None}
use Rattle.std.specs.List.{flat_map}
use Rattle.ob_base.specs.Tree.{below}
use Rattle.ob_cells.specs.Rules.{first_broken}
use Rattle.ob_check.specs.Rules.{key_rules, placed_before}
use Rattle.ob_check.specs.Marks.{AreMarked}
use Rattle.ob_check.proofs.keys.check_keys.Given as goal

abbrev pub invariant-loop-j : goal.invariant-loop-j
invariant-loop-j l = record {
  kept : first_broken (flat_map (key_rules l.p l.bytes l.u) (below l.j)) ≡ None;
  marked : AreMarked l.p.keys l.placed (placed_before l.p l.bytes l.u l.j);
}
