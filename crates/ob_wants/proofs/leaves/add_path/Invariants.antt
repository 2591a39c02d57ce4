use Rattle.std.specs.Prelude.{◌≡◌, ◌<◌, ◌+◌, ℕ, cond, length, slice_index}
use Rattle.ob_wants.proofs.TotalLaws.{on_levels}
use Rattle.ob_wants.proofs.leaves.add_path.Given as goal

abbrev pub invariant-loop-level : goal.invariant-loop-level
invariant-loop-level l = (length l.passed ≡ length l.initial.passed) × ((u : ℕ) → u < length l.initial.passed → slice_index l.passed u ≡ slice_index l.initial.passed u + cond (on_levels l.p l.leaf l.level u) 1 0)
