use Rattle.std.proofs.Common.{◌<◌, Ok, Err, ◌∙◌, ap, arith, subst, sym, []}
use Rattle.std.specs.Prelude.{IfSome}
use Rattle.ob_base.specs.declared.fault.Fault.{Fault}
use Rattle.ob_base.specs.Planned.{job_at, Planned}
use Rattle.ob_ring.specs.Picked.{batch_picked, SameSeals}
use Rattle.ob_ring.specs.Ring.{Kept}
use Rattle.ob_tables.specs.Kept.{entry_at}
use Rattle.ob_ring.specs.Settling.{rows_after}
use Rattle.ob_recover.specs.Repeats.{BatchAnswers, BatchTells, asked_of_record, batch_cells, repeated_notes, IsRepeatFault}
use Rattle.ob_recover.proofs.FitLaws.{fit_settled}
use Rattle.ob_recover.proofs.ShowLaws.{are_placed}
use Rattle.ob_recover.proofs.BatchLaws.{batch_few, batch_tells, kept_planned, kept_settled, keys_low, not_settled, rows_join, settled_badly, settled_well, stands_kept}
use Rattle.ob_recover.specs.Repeats.{record_of}
use Rattle.ob_tables.specs.Buckets.{Buckets}
use Rattle.ob_store.specs.Calls.{IsStoreFault, Serves}
use Rattle.ob_recover.proofs.reading.read_batch.Goals as goal

pub read_jobs-requires-clause-few : goal.read_jobs-requires-clause-few
read_jobs-requires-clause-few g c κs within =
    let ring = c.args.ring.now in
    let r = record_of 0 0 c.args.generation c.args.first c.args.asks.now c.args.words.now in
    let planned = c.plan.ensures.planned 0 0 c.requires.stands.0 c.requires.stands.1 in
    let few = batch_few ring.p c.requires.stands.0 r ring.metas.versions c.plan.new.jobs.jobs c.requires.asks planned.jobs in
    let most = c.requires.crew in
    omega arith

pub read_jobs-requires-clause-placed : goal.read_jobs-requires-clause-placed
read_jobs-requires-clause-placed g c κs within =
    let ring = c.args.ring.now in
    let r = record_of 0 0 c.args.generation c.args.first c.args.asks.now c.args.words.now in
    let planned = c.plan.ensures.planned 0 0 c.requires.stands.0 c.requires.stands.1 in
    are_placed ring.p ring.metas.versions c.requires.stands.0 (asked_of_record ring.p r) c.plan.new.jobs planned.jobs planned.places

pub returns-in-Err-clause-value : goal.returns-in-Err-clause-value
returns-in-Err-clause-value g c = λ batch number start t seals stands tells.
    let r = record_of batch number c.args.generation c.args.first c.args.asks.now c.args.words.now in
    not_settled c.args.sealer.now.keys (g.S.Store.disk c.args.store.now).cells c.args.ring.now c.plan.new.ring r c.plan.new.jobs c.read_jobs.new.jobs.jobs start t seals
    (c.plan.ensures.planned batch number t stands) c.args.ring.now.stash.rows c.plan.new.ring.stash.rows c.in-Err.fault c.in-Err.ensures.faults (c.in-Err.ensures.value tells)

pub returns-in-Err-clause-told : goal.returns-in-Err-clause-told
returns-in-Err-clause-told g c = λ batch number start t seals stands.
    let r = record_of batch number c.args.generation c.args.first c.args.asks.now c.args.words.now in
    batch_tells c.args.crew.now.lanes c.args.ring.now c.plan.new.ring r c.plan.new.jobs start t seals (c.plan.ensures.planned batch number t stands) _ _ _ _ (Err c.in-Err.fault) c.in-Err.ensures.told

pub settle-requires : goal.settle-requires
settle-requires g c = record {
  keys = λ i.
      let p_same = ap (λ (r : Kept). r.p) c.plan.ensures.kept in
      subst (λ p. IfSome (job_at c.read_jobs.new.jobs.jobs i).key (λ k. k < p.keys)) (sym p_same)
      (keys_low c.args.ring.now.p.keys c.plan.new.jobs.jobs c.read_jobs.new.jobs.jobs c.in-Ok.ensures.keys (c.plan.ensures.keys c.requires.stands.0 c.requires.stands.1) i);
}

pub returns-in-Ok-settle-clause-value : goal.returns-in-Ok-settle-clause-value
returns-in-Ok-settle-clause-value g c = λ batch number start t seals stands tells.
    let r = record_of batch number c.args.generation c.args.first c.args.asks.now c.args.words.now in
    let jobs = c.read_jobs.new.jobs.jobs in
    let settled = c.in-Ok-settle.ensures.settled in
    settled_well c.args.sealer.now.keys (g.S.Store.disk c.args.store.now).cells c.args.ring.now c.plan.new.ring r c.plan.new.jobs jobs start t seals
    (c.plan.ensures.planned batch number t stands) c.args.ring.now.stash.rows c.settle.new.self.stash.rows (c.in-Ok.ensures.value tells) settled.0
    (settled.1 ∙ ap (λ (r : Kept). rows_after (r.stash).rows jobs) c.plan.ensures.kept)

pub returns-in-Ok-settle-clause-joins : goal.returns-in-Ok-settle-clause-joins
returns-in-Ok-settle-clause-joins g c = λ batch number t stands.
    let ring = c.args.ring.now in
    let r = record_of batch number c.args.generation c.args.first c.args.asks.now c.args.words.now in
    let jobs = c.read_jobs.new.jobs.jobs in
    let filled = c.in-Ok.ensures.filled in
    let settled = c.in-Ok-settle.ensures.settled in
    rows_join ring.p ring.metas.versions (batch_picked ring.p t (asked_of_record ring.p r)) c.plan.new.jobs.jobs jobs filled.0 ring.stash.rows c.settle.new.self.stash.rows (c.plan.ensures.planned batch number t stands).jobs filled.1 settled.0
    (settled.1 ∙ ap (λ (r : Kept). rows_after (r.stash).rows jobs) c.plan.ensures.kept)

pub returns-in-Ok-settle-clause-fit : goal.returns-in-Ok-settle-clause-fit
returns-in-Ok-settle-clause-fit g c = λ fit.
    fit_settled c.args.ring.now c.plan.new.ring c.settle.new.self fit c.args.generation c.args.first c.args.asks.now c.args.words.now c.ranges.generation.fits c.plan.ensures.kept c.in-Ok-settle.ensures.kept c.tables.ensures.rules
    (λ k. c.plan.ensures.entries 0 0 k) c.plan.ensures.seals (c.plan.ensures.planned 0 0 fit.table fit.stands).table (returns-in-Ok-settle-clause-joins g c 0 0 fit.table fit.stands)

pub returns-in-Ok-settle-clause-told : goal.returns-in-Ok-settle-clause-told
returns-in-Ok-settle-clause-told g c = λ batch number start t seals stands.
    let r = record_of batch number c.args.generation c.args.first c.args.asks.now c.args.words.now in
    batch_tells c.args.crew.now.lanes c.args.ring.now c.plan.new.ring r c.plan.new.jobs start t seals (c.plan.ensures.planned batch number t stands) _ _ _ _ (Ok tt) c.in-Ok.ensures.told

pub returns-in-Err-settle-clause-value : goal.returns-in-Err-settle-clause-value
returns-in-Err-settle-clause-value g c = λ batch number start t seals stands tells.
    let r = record_of batch number c.args.generation c.args.first c.args.asks.now c.args.words.now in
    let keys = c.args.sealer.now.keys in
    let image = (g.S.Store.disk c.args.store.now).cells in
    subst (λ (f : Fault). BatchAnswers keys c.args.ring.now.p start.versions image t r c.args.ring.now.stash.rows c.settle.new.self.stash.rows (Err f)) (sym c.from.ensures)
    (settled_badly keys image c.args.ring.now c.plan.new.ring r c.plan.new.jobs c.read_jobs.new.jobs.jobs start t seals
    (c.plan.ensures.planned batch number t stands) c.args.ring.now.stash.rows c.settle.new.self.stash.rows c.in-Err-settle.damaged (c.in-Ok.ensures.value tells) c.in-Err-settle.ensures.settled)

pub returns-in-Err-settle-clause-told : goal.returns-in-Err-settle-clause-told
returns-in-Err-settle-clause-told g c = λ batch number start t seals stands.
    let p = c.args.ring.now.p in
    let r = record_of batch number c.args.generation c.args.first c.args.asks.now c.args.words.now in
    let asked = asked_of_record p r in
    subst (λ (f : Fault). BatchTells c.args.crew.now.lanes (batch_cells p start.versions t asked) (repeated_notes p start.versions t asked) (g.S.Store.disk c.args.store.now).seen (g.S.Store.disk c.read_jobs.new.store).seen
    (g.W.Watch.trace c.args.watch.now) (g.W.Watch.trace c.read_jobs.new.watch) (Err f)) (sym c.from.ensures)
    (batch_tells c.args.crew.now.lanes c.args.ring.now c.plan.new.ring r c.plan.new.jobs start t seals (c.plan.ensures.planned batch number t stands) _ _ _ _ (Ok tt) c.in-Ok.ensures.told)

pub returns-in-Err-clause-table : goal.returns-in-Err-clause-table
returns-in-Err-clause-table g c = λ batch number t stands. (c.plan.ensures.planned batch number t stands).table

pub returns-in-Ok-settle-clause-entries : goal.returns-in-Ok-settle-clause-entries
returns-in-Ok-settle-clause-entries g c = λ batch number k. ap (λ (r : Kept). entry_at r.book k) c.in-Ok-settle.ensures.kept ∙ c.plan.ensures.entries batch number k

pub returns-in-Ok-settle-clause-table : goal.returns-in-Ok-settle-clause-table
returns-in-Ok-settle-clause-table g c = λ batch number t stands. stands_kept c.plan.new.ring c.settle.new.self c.settle.new.self.stash c.in-Ok-settle.ensures.kept _ (c.plan.ensures.planned batch number t stands).table

pub returns-in-Err-settle-clause-entries : goal.returns-in-Err-settle-clause-entries
returns-in-Err-settle-clause-entries g c = λ batch number k. ap (λ (r : Kept). entry_at r.book k) c.in-Err-settle.ensures.kept ∙ c.plan.ensures.entries batch number k

pub returns-in-Err-settle-clause-table : goal.returns-in-Err-settle-clause-table
returns-in-Err-settle-clause-table g c = λ batch number t stands. stands_kept c.plan.new.ring c.settle.new.self c.settle.new.self.stash c.in-Err-settle.ensures.kept _ (c.plan.ensures.planned batch number t stands).table

pub returns-in-Err-clause-serves : goal.returns-in-Err-clause-serves
returns-in-Err-clause-serves g c = c.in-Err.ensures.serves

pub returns-in-Err-clause-faults : goal.returns-in-Err-clause-faults
returns-in-Err-clause-faults g c = c.in-Err.ensures.faults

pub returns-in-Err-clause-rooms : goal.returns-in-Err-clause-rooms
returns-in-Err-clause-rooms g c = (ap (λ (j : Planned). j.room) c.read_jobs.ensures.rest ∙ c.plan.ensures.rooms.0, ap (λ (j : Planned). j.place_room) c.read_jobs.ensures.rest ∙ c.plan.ensures.rooms.1)

pub returns-in-Ok-settle-clause-rooms : goal.returns-in-Ok-settle-clause-rooms
returns-in-Ok-settle-clause-rooms g c = (ap (λ (j : Planned). j.room) c.read_jobs.ensures.rest ∙ c.plan.ensures.rooms.0, ap (λ (j : Planned). j.place_room) c.read_jobs.ensures.rest ∙ c.plan.ensures.rooms.1)

pub returns-in-Err-settle-clause-rooms : goal.returns-in-Err-settle-clause-rooms
returns-in-Err-settle-clause-rooms g c = (ap (λ (j : Planned). j.room) c.read_jobs.ensures.rest ∙ c.plan.ensures.rooms.0, ap (λ (j : Planned). j.place_room) c.read_jobs.ensures.rest ∙ c.plan.ensures.rooms.1)

pub returns-in-Ok-settle-clause-serves : goal.returns-in-Ok-settle-clause-serves
returns-in-Ok-settle-clause-serves g c = c.in-Ok.ensures.serves

pub returns-in-Err-settle-clause-serves : goal.returns-in-Err-settle-clause-serves
returns-in-Err-settle-clause-serves g c =
    let serves = c.read_jobs.ensures.serves in
    subst (λ (f : Fault). Serves {T = Unit {0}} IsStoreFault (g.S.Store.disk c.args.store.now) (g.S.Store.disk c.read_jobs.new.store) (Err f)) (sym c.from.ensures) (record { goes = serves.goes; out = serves.out; tells = tt; cause = λ never. absurd never })

pub returns-in-Err-settle-clause-faults : goal.returns-in-Err-settle-clause-faults
returns-in-Err-settle-clause-faults g c = subst IsRepeatFault (sym c.from.ensures) tt

pub returns-in-Ok-settle-clause-room : goal.returns-in-Ok-settle-clause-room
returns-in-Ok-settle-clause-room g c = c.in-Ok-settle.ensures.room ∙ ap (λ (r : Kept). (r.stash).room) c.plan.ensures.kept

pub returns-in-Ok-settle-clause-seals : goal.returns-in-Ok-settle-clause-seals
returns-in-Ok-settle-clause-seals g c = subst (λ (b : Buckets). SameSeals (record c.args.ring.now.metas { order = [] }) b) (sym (ap (λ (r : Kept). r.metas) c.in-Ok-settle.ensures.kept)) c.plan.ensures.seals

pub returns-in-Err-settle-clause-room : goal.returns-in-Err-settle-clause-room
returns-in-Err-settle-clause-room g c = c.in-Err-settle.ensures.room ∙ ap (λ (r : Kept). (r.stash).room) c.plan.ensures.kept

pub returns-in-Err-settle-clause-seals : goal.returns-in-Err-settle-clause-seals
returns-in-Err-settle-clause-seals g c = subst (λ (b : Buckets). SameSeals (record c.args.ring.now.metas { order = [] }) b) (sym (ap (λ (r : Kept). r.metas) c.in-Err-settle.ensures.kept)) c.plan.ensures.seals

pub returns-in-Err-clause-seals : goal.returns-in-Err-clause-seals
returns-in-Err-clause-seals g c = c.plan.ensures.seals

pub returns-in-Err-clause-entries : goal.returns-in-Err-clause-entries
returns-in-Err-clause-entries g c = c.plan.ensures.entries

-- ---- the batch may be planned

pub plan-requires-clause-asks : goal.plan-requires-clause-asks
plan-requires-clause-asks g c = c.requires.asks

pub plan-requires-clause-words : goal.plan-requires-clause-words
plan-requires-clause-words g c = c.requires.words

pub plan-requires-clause-keys_low : goal.plan-requires-clause-keys_low
plan-requires-clause-keys_low g c = c.requires.keys_low

pub plan-requires-clause-jobs : goal.plan-requires-clause-jobs
plan-requires-clause-jobs g c = c.requires.jobs

-- ---- what stays

pub returns-in-Err-clause-keeps : goal.returns-in-Err-clause-keeps
returns-in-Err-clause-keeps g c = c.read_jobs.ensures.keeps

pub returns-in-Err-clause-passes : goal.returns-in-Err-clause-passes
returns-in-Err-clause-passes g c = c.read_jobs.ensures.passes

pub returns-in-Err-clause-crew : goal.returns-in-Err-clause-crew
returns-in-Err-clause-crew g c = c.read_jobs.ensures.crew

pub returns-in-Ok-settle-clause-keeps : goal.returns-in-Ok-settle-clause-keeps
returns-in-Ok-settle-clause-keeps g c = c.read_jobs.ensures.keeps

pub returns-in-Ok-settle-clause-passes : goal.returns-in-Ok-settle-clause-passes
returns-in-Ok-settle-clause-passes g c = c.read_jobs.ensures.passes

pub returns-in-Ok-settle-clause-crew : goal.returns-in-Ok-settle-clause-crew
returns-in-Ok-settle-clause-crew g c = c.read_jobs.ensures.crew

pub returns-in-Err-settle-clause-keeps : goal.returns-in-Err-settle-clause-keeps
returns-in-Err-settle-clause-keeps g c = c.read_jobs.ensures.keeps

pub returns-in-Err-settle-clause-passes : goal.returns-in-Err-settle-clause-passes
returns-in-Err-settle-clause-passes g c = c.read_jobs.ensures.passes

pub returns-in-Err-settle-clause-crew : goal.returns-in-Err-settle-clause-crew
returns-in-Err-settle-clause-crew g c = c.read_jobs.ensures.crew

pub returns-in-Err-clause-kept : goal.returns-in-Err-clause-kept
returns-in-Err-clause-kept g c = kept_planned c.args.ring.now c.plan.new.ring c.plan.ensures.kept

pub returns-in-Err-clause-room : goal.returns-in-Err-clause-room
returns-in-Err-clause-room g c = ap (λ (r : Kept). (r.stash).room) c.plan.ensures.kept

pub returns-in-Ok-settle-clause-kept : goal.returns-in-Ok-settle-clause-kept
returns-in-Ok-settle-clause-kept g c = kept_settled c.args.ring.now c.plan.new.ring c.settle.new.self c.plan.ensures.kept c.in-Ok-settle.ensures.kept

pub returns-in-Err-settle-clause-kept : goal.returns-in-Err-settle-clause-kept
returns-in-Err-settle-clause-kept g c = kept_settled c.args.ring.now c.plan.new.ring c.settle.new.self c.plan.ensures.kept c.in-Err-settle.ensures.kept
