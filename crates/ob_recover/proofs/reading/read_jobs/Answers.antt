use Rattle.ob_recover.proofs.ShowLaws.{filled_batch}
use Rattle.std.proofs.Common.{◌≡◌, List, None, Err, length, ap, ◌∙◌, subst}
use Rattle.ob_base.specs.Causes.{Rose}
use Rattle.ob_base.specs.declared.fault.Fault.TheVariants.{StoreFault}
use Rattle.ob_base.specs.Planned.{Planned}
use Rattle.ob_base.specs.declared.job.Job.{Job}
use Rattle.ob_cells.specs.declared.error.JobsErr.{JobsErr}
use Rattle.ob_cells.specs.Jobs.{AreJobsAnswered, AreSeen, IsBlamed, IsJobsErr}
use Rattle.ob_store.specs.Calls.{IsStoreFault}
use Rattle.ob_store.specs.Lines.{Shows}
use Rattle.ob_store.proofs.Serving.{serves_ok}
use Rattle.ob_store.proofs.Showing.{shows_none}
use Rattle.ob_recover.proofs.BatchLaws.{failing_answer, failing_tells, job_fault, refused_answer, refused_fault, refused_tells, kept_keys}
use Rattle.ob_recover.specs.Shows.{placed_notes}
use Rattle.ob_recover.proofs.reading.read_jobs.Goals as goal

pub run_jobs-requires-clause-few : goal.run_jobs-requires-clause-few
run_jobs-requires-clause-few g c κs within = c.requires.few

pub returns-in-Ok-clause-told : goal.returns-in-Ok-clause-told
returns-in-Ok-clause-told g c = (
  c.in-Ok.ensures.seen,
  filled_batch c.args.jobs.now c.run_jobs.new.jobs c.in-Ok.ensures.kept.0 _ _ c.run_jobs.ensures.rest c.in-Ok.ensures.kept.1 c.show_jobs.ensures,
)

pub returns-in-Ok-clause-serves : goal.returns-in-Ok-clause-serves
returns-in-Ok-clause-serves g c =
    let serves = c.in-Ok.ensures.serves in
    serves_ok IsStoreFault _ _ tt serves.goes serves.out serves.tells

pub returns-in-Err-NotBegun-clause-serves : goal.returns-in-Err-NotBegun-clause-serves
returns-in-Err-NotBegun-clause-serves g c =
    let serves = c.run_jobs.ensures.serves in
    let cause = subst (λ (e : JobsErr). IsBlamed e → Rose (g.S.Store.disk c.args.store.now).faults (g.S.Store.disk c.run_jobs.new.store).faults) c.in-Err-NotBegun.field-0-is c.in-Err-NotBegun.ensures.serves.cause in
    record { goes = serves.goes; out = serves.out; tells = tt; cause = λ blamed. cause tt }

pub returns-in-Err-NotBegun-clause-value : goal.returns-in-Err-NotBegun-clause-value
returns-in-Err-NotBegun-clause-value g c =
    let is = c.in-Err-NotBegun.field-0-is in
    let none : c.in-Err-NotBegun.fault ≡ StoreFault None = subst IsJobsErr is c.in-Err-NotBegun.ensures.faults in
    λ tells. refused_answer _ _ _ c.run_jobs.new.jobs.jobs c.in-Err-NotBegun.fault none

pub returns-in-Err-NotBegun-clause-faults : goal.returns-in-Err-NotBegun-clause-faults
returns-in-Err-NotBegun-clause-faults g c =
    let is = c.in-Err-NotBegun.field-0-is in
    let none : c.in-Err-NotBegun.fault ≡ StoreFault None = subst IsJobsErr is c.in-Err-NotBegun.ensures.faults in
    refused_fault c.in-Err-NotBegun.fault none

pub returns-in-Err-NotBegun-clause-told : goal.returns-in-Err-NotBegun-clause-told
returns-in-Err-NotBegun-clause-told g c =
    let is = c.in-Err-NotBegun.field-0-is in
    let none : c.in-Err-NotBegun.fault ≡ StoreFault None = subst IsJobsErr is c.in-Err-NotBegun.ensures.faults in
    refused_tells _ _ _ _ _ _ _ c.in-Err-NotBegun.fault none (subst (λ (e : JobsErr). AreSeen c.args.crew.now.lanes c.args.jobs.now.jobs (g.S.Store.disk c.args.store.now).seen (g.S.Store.disk c.run_jobs.new.store).seen (Err e)) is
    c.in-Err-NotBegun.ensures.seen) (shows_none (g.W.Watch.trace c.args.watch.now))

pub returns-in-Err-Job-clause-serves : goal.returns-in-Err-Job-clause-serves
returns-in-Err-Job-clause-serves g c =
    let serves = c.run_jobs.ensures.serves in
    let cause = subst (λ (e : JobsErr). IsBlamed e → Rose (g.S.Store.disk c.args.store.now).faults (g.S.Store.disk c.run_jobs.new.store).faults) c.in-Err-Job.field-0-is c.in-Err-Job.ensures.serves.cause in
    record { goes = serves.goes; out = serves.out; tells = tt; cause = cause }

pub returns-in-Err-Job-clause-value : goal.returns-in-Err-Job-clause-value
returns-in-Err-Job-clause-value g c =
    let is = c.in-Err-Job.field-0-is in
    let read = subst IsJobsErr is c.in-Err-Job.ensures.faults in
    λ tells. failing_answer _ _ _ c.run_jobs.new.jobs.jobs c.in-Err-Job.fault read (subst (λ (e : JobsErr). AreJobsAnswered c.args.sealer.now.keys (g.S.Store.disk c.args.store.now).cells c.args.jobs.now.jobs c.run_jobs.new.jobs.jobs (Err e)) is (c.in-Err-Job.ensures.value tells))

pub returns-in-Err-Job-clause-faults : goal.returns-in-Err-Job-clause-faults
returns-in-Err-Job-clause-faults g c =
    let is = c.in-Err-Job.field-0-is in
    let read = subst IsJobsErr is c.in-Err-Job.ensures.faults in
    job_fault c.in-Err-Job.fault read

pub returns-in-Err-Job-clause-told : goal.returns-in-Err-Job-clause-told
returns-in-Err-Job-clause-told g c =
    let is = c.in-Err-Job.field-0-is in
    let read = subst IsJobsErr is c.in-Err-Job.ensures.faults in
    let all = c.run_jobs.ensures.rest ∙ ap (λ (js : List Job). record c.args.jobs.now { jobs = js }) c.in-Err-Job.ensures.kept in
    failing_tells _ _ _ _ _ _ _ c.in-Err-Job.fault read (
      subst (λ (e : JobsErr). AreSeen c.args.crew.now.lanes c.args.jobs.now.jobs (g.S.Store.disk c.args.store.now).seen (g.S.Store.disk c.run_jobs.new.store).seen (Err e)) is c.in-Err-Job.ensures.seen,
      subst (λ (jobs : Planned). Shows (placed_notes jobs (length jobs.places)) (g.W.Watch.trace c.args.watch.now) (g.W.Watch.trace c.show_jobs-in-Err-Job.new.watch)) all c.show_jobs-in-Err-Job.ensures,
    )

pub returns-in-Ok-clause-keys : goal.returns-in-Ok-clause-keys
returns-in-Ok-clause-keys g c = kept_keys _ _ c.run_jobs.result c.run_jobs.ensures.kept

pub returns-in-Err-NotBegun-clause-keys : goal.returns-in-Err-NotBegun-clause-keys
returns-in-Err-NotBegun-clause-keys g c = kept_keys _ _ c.run_jobs.result c.run_jobs.ensures.kept

pub returns-in-Err-Job-clause-keys : goal.returns-in-Err-Job-clause-keys
returns-in-Err-Job-clause-keys g c = kept_keys _ _ c.run_jobs.result c.run_jobs.ensures.kept

pub returns-in-Ok-clause-filled : goal.returns-in-Ok-clause-filled
returns-in-Ok-clause-filled g c = c.in-Ok.ensures.kept

-- ---- what stays

pub returns-in-Ok-clause-rest : goal.returns-in-Ok-clause-rest
returns-in-Ok-clause-rest g c = c.run_jobs.ensures.rest

pub returns-in-Ok-clause-crew : goal.returns-in-Ok-clause-crew
returns-in-Ok-clause-crew g c = c.run_jobs.ensures.crew

pub returns-in-Ok-clause-keeps : goal.returns-in-Ok-clause-keeps
returns-in-Ok-clause-keeps g c = c.run_jobs.ensures.keeps

pub returns-in-Ok-clause-passes : goal.returns-in-Ok-clause-passes
returns-in-Ok-clause-passes g c = c.run_jobs.ensures.passes

pub returns-in-Err-NotBegun-clause-rest : goal.returns-in-Err-NotBegun-clause-rest
returns-in-Err-NotBegun-clause-rest g c = c.run_jobs.ensures.rest

pub returns-in-Err-NotBegun-clause-crew : goal.returns-in-Err-NotBegun-clause-crew
returns-in-Err-NotBegun-clause-crew g c = c.run_jobs.ensures.crew

pub returns-in-Err-NotBegun-clause-keeps : goal.returns-in-Err-NotBegun-clause-keeps
returns-in-Err-NotBegun-clause-keeps g c = c.run_jobs.ensures.keeps

pub returns-in-Err-NotBegun-clause-passes : goal.returns-in-Err-NotBegun-clause-passes
returns-in-Err-NotBegun-clause-passes g c = c.run_jobs.ensures.passes

pub returns-in-Err-Job-clause-rest : goal.returns-in-Err-Job-clause-rest
returns-in-Err-Job-clause-rest g c = c.run_jobs.ensures.rest

pub returns-in-Err-Job-clause-crew : goal.returns-in-Err-Job-clause-crew
returns-in-Err-Job-clause-crew g c = c.run_jobs.ensures.crew

pub returns-in-Err-Job-clause-keeps : goal.returns-in-Err-Job-clause-keeps
returns-in-Err-Job-clause-keeps g c = c.run_jobs.ensures.keeps

pub returns-in-Err-Job-clause-passes : goal.returns-in-Err-Job-clause-passes
returns-in-Err-Job-clause-passes g c = c.run_jobs.ensures.passes

pub returns-in-Ok-clause-value : goal.returns-in-Ok-clause-value
returns-in-Ok-clause-value g c = c.in-Ok.ensures.value
