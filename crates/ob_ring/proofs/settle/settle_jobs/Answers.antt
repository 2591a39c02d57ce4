use Rattle.std.proofs.Common.{List, [], take, subst, sym, ◌∙◌}
use Rattle.std.proofs.lemmas.List.{take_more}
use Rattle.ob_base.specs.declared.job.Job.{Job}
use Rattle.ob_base.specs.Planned.{job_at}
use Rattle.ob_ring.specs.Settling.{or_else, with_row}
use Rattle.ob_ring.proofs.Stashes.{first_at, fault_both, rows_both}
use Rattle.ob_ring.proofs.settle.settle_jobs.Invariants.{SoFar}
use Rattle.ob_ring.proofs.settle.settle_jobs.Goals as goal

pub returns-in-Err-clause-settled : goal.returns-in-Err-clause-settled
returns-in-Err-clause-settled c = first_at c.args.jobs.now c.loop-i.i c.in-Err.damaged _ c.loop-i-test.true c.loop-i.invariant.none c.in-Err.ensures.settled

pub loop-i-preserved : goal.loop-i-preserved
loop-i-preserved c =
    let job : Job = job_at c.args.jobs.now c.loop-i.i in
    subst (λ (xs : List Job). SoFar c.args.p.now xs c.args.stash.now c.settle_job.new.stash) (sym (take_more c.args.jobs.now c.loop-i.i (job_at [] 0) c.loop-i-test.true))
    (record {
      low = c.in_default.ensures.low;
      room = c.in_default.ensures.room ∙ c.loop-i.invariant.room;
      none = fault_both (take c.loop-i.i c.args.jobs.now) job ∙ (λ i. or_else (c.loop-i.invariant.none i) (c.in_default.ensures.settled.0 i));
      rows = c.in_default.ensures.settled.1 ∙ (λ i. with_row (c.loop-i.invariant.rows i) job.key job.result) ∙ sym (rows_both c.args.stash.now.rows (take c.loop-i.i c.args.jobs.now) job);
    })
