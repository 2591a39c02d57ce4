use Rattle.std.proofs.Common.{◌<◌, ℕ, List, length, subst}
use Rattle.std.specs.Result.{IsOk}
use Rattle.ob_base.specs.declared.job.Job.{Job}
use Rattle.ob_lanes.specs.declared.hand.Slot.{Slot}
use Rattle.ob_lanes.specs.Rooms.{lanes_of}
use Rattle.ob_lanes.specs.Shares.{AreShared}
use Rattle.ob_cells.specs.Jobs.{AreFilled, cells_of, IsBlamed, IsFirstErr, plain_at, job_outcome}
use Rattle.ob_cells.proofs.JobReads.{by_shares, told_cause, told_failing, told_read}
use Rattle.ob_store.specs.Calls.{IsFailed}
use Rattle.ob_store.proofs.Serving.{serves_err, serves_ok}
use Rattle.ob_cells.proofs.job_run.run_in.Goals as goal

pub returns-in-Err-clause-serves : goal.returns-in-Err-clause-serves
returns-in-Err-clause-serves g c = serves_err IsFailed IsBlamed _ _ _ _ (λ blamed. tt) c.in-Err.ensures.serves

pub returns-in-Some-clause-serves : goal.returns-in-Some-clause-serves
returns-in-Some-clause-serves g c =
    let read = c.in-Ok.ensures in
    let first = subst (λ (ss : List Slot). IsFirstErr ss (length c.jobs-asked.result.now) c.in-Some.fault) c.as_slice-slots.ensures.value c.in-Some.ensures in
    record { goes = read.serves.goes; out = read.serves.out; tells = tt; cause = (told_cause c.args.sealer.now.keys (g.S.Store.disk c.args.store.now) _ _ c.args.jobs.now.jobs _ _ _ read.read first).1 }

pub returns-in-Some-clause-faults : goal.returns-in-Some-clause-faults
returns-in-Some-clause-faults g c =
    let read = c.in-Ok.ensures in
    let first = subst (λ (ss : List Slot). IsFirstErr ss (length c.jobs-asked.result.now) c.in-Some.fault) c.as_slice-slots.ensures.value c.in-Some.ensures in
    (told_cause c.args.sealer.now.keys (g.S.Store.disk c.args.store.now) _ _ c.args.jobs.now.jobs _ _ _ read.read first).0

pub returns-in-Some-clause-value : goal.returns-in-Some-clause-value
returns-in-Some-clause-value g c = λ tells.
    let first = subst (λ (ss : List Slot). IsFirstErr ss (length c.jobs-asked.result.now) c.in-Some.fault) c.as_slice-slots.ensures.value c.in-Some.ensures in
    told_failing c.args.sealer.now.keys (g.S.Store.disk c.args.store.now) _ _ c.args.jobs.now.jobs _ _ _ c.jobs-asked.ensures c.in-Ok.ensures.read first tells

pub returns-in-Some-clause-seen : goal.returns-in-Some-clause-seen
returns-in-Some-clause-seen g c =
    by_shares (lanes_of c.args.readers.now) (cells_of c.args.jobs.now.jobs) _ _
    (subst (λ (js : List Job). AreShared (lanes_of c.args.readers.now) (cells_of js) (g.S.Store.disk c.args.store.now).seen (g.S.Store.disk c.read_jobs.new.store).seen) c.jobs-asked.ensures c.in-Ok.ensures.seen)

pub returns-clause-serves : goal.returns-clause-serves
returns-clause-serves g c = let read = c.in-Ok.ensures.serves in serves_ok IsBlamed _ _ _ read.goes read.out read.tells

pub returns-clause-value : goal.returns-clause-value
returns-clause-value g c = λ tells.
    let slots = c.as_slice-slots.ensures.value in
    told_read c.args.sealer.now.keys (g.S.Store.disk c.args.store.now) _ _ c.args.jobs.now.jobs _ _ _ c.jobs-asked.ensures c.in-Ok.ensures.read
    (subst (λ (ss : List Slot). (i : ℕ) → i < length c.jobs-asked.result.now → IsOk (job_outcome ss i)) slots c.in-None.ensures)
    (subst (λ (ss : List Slot). AreFilled c.args.jobs.now.jobs c.keep_all.new.jobs.jobs (λ i. plain_at ss i)) slots c.keep_all.ensures.filled) tells

pub returns-clause-seen : goal.returns-clause-seen
returns-clause-seen g c =
    by_shares (lanes_of c.args.readers.now) (cells_of c.args.jobs.now.jobs) _ _
    (subst (λ (js : List Job). AreShared (lanes_of c.args.readers.now) (cells_of js) (g.S.Store.disk c.args.store.now).seen (g.S.Store.disk c.read_jobs.new.store).seen) c.jobs-asked.ensures c.in-Ok.ensures.seen)
