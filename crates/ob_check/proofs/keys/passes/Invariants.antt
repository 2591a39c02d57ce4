use Rattle.std.specs.Prelude.{◌≢◌, ◌<◌, ◌≤◌, ◌+◌, ℕ}
use Rattle.ob_base.specs.Tree.{bucket_of}
use Rattle.ob_check.proofs.keys.passes.Given as goal

abbrev pub invariant-loop-above : goal.invariant-loop-above
invariant-loop-above l = (level : ℕ) → level ≤ l.p.levels → l.p.levels < level + l.above → bucket_of l.p level l.leaf ≢ l.u
