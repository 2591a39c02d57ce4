use Rattle.std.proofs.Common.{◌<◌, ℕ}
use Rattle.std.specs.Result.{IsOk}
use Rattle.ob_cells.specs.Jobs.{job_outcome}
use Rattle.ob_cells.proofs.job_outcomes.first_fault.Given as goal

abbrev pub invariant-loop-i : goal.invariant-loop-i
invariant-loop-i l = (i : ℕ) → i < l.i → IsOk (job_outcome l.slots i)
