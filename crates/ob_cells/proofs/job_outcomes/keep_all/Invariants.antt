use Rattle.std.proofs.Common.{◌≡◌}
use Rattle.ob_cells.specs.Jobs.{plain_at}
use Rattle.ob_cells.proofs.Filling.{Fills}
use Rattle.ob_cells.proofs.job_outcomes.keep_all.Given as goal

abbrev pub invariant-loop-i : goal.invariant-loop-i
invariant-loop-i l = record {
  filled : Fills l.initial.jobs.jobs l.jobs.jobs (λ i. plain_at l.slots i) l.i;
  same : l.jobs ≡ record l.initial.jobs { jobs = l.jobs.jobs };
}
