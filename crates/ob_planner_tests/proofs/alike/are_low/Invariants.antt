use Rattle.std.proofs.Common.{ℕ, ◌<◌, IfSome}
use Rattle.ob_base.specs.Planned.{job_at}
use Rattle.ob_planner_tests.proofs.alike.are_low.Given as goal

abbrev pub invariant-loop-i : goal.invariant-loop-i
invariant-loop-i l = (j : ℕ) → j < l.i → IfSome (job_at l.jobs.jobs j).key (λ k. k < 8)
