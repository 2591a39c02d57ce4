use Rattle.std.specs.Prelude.{◌≡◌, None}
use Rattle.std.specs.List.{flat_map}
use Rattle.ob_base.specs.Tree.{below}
use Rattle.ob_cells.specs.Rules.{first_broken}
use Rattle.ob_check.specs.Rules.{bucket_rules, placed_in}
use Rattle.ob_check.specs.Marks.{AreMarked}
use Rattle.ob_check.proofs.buckets.check_buckets.Given as goal

abbrev pub invariant-loop-u : goal.invariant-loop-u
invariant-loop-u l = record {
  kept : first_broken (flat_map (bucket_rules l.p l.bytes) (below l.u)) ≡ None;
  marked : AreMarked l.p.keys l.placed (placed_in l.p l.bytes l.u);
}
