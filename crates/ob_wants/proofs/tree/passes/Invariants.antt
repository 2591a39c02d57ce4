use Rattle.std.specs.Prelude.{◌≡◌, false}
use Rattle.ob_wants.proofs.TotalLaws.{on_levels}
use Rattle.ob_wants.proofs.tree.passes.Given as goal

abbrev pub invariant-loop-level : goal.invariant-loop-level
invariant-loop-level l = on_levels l.p l.leaf l.level l.bucket ≡ false
