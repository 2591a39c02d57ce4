use Rattle.std.proofs.Common.{◌≤◌, List, Ok, Err, ap, arith, length, subst, sym, ◌∙◌}
use Rattle.ob_base.specs.Planned.{most_jobs}
use Rattle.ob_log.specs.Logs.{BatchRecord, RecordsFit}
use Rattle.ob_stand.specs.Table.{flat_of}
use Rattle.ob_ring.specs.Ring.{Kept, StandsFor}
use Rattle.ob_recover.specs.Repeats.{content_of_ring}
use Rattle.ob_recover.specs.Fits.{IsPlannerFit}
use Rattle.ob_recover.proofs.BeginLaws.{ring_rules, ring_stands}
use Rattle.ob_recover.proofs.FitLaws.{fit_content}
use Rattle.ob_recover.proofs.StandingReads.{found_answer, found_does, found_refused, found_repeated, replayed_well, replayed_badly}
use Rattle.ob_store.specs.Calls.{IsStoreFault}
use Rattle.ob_store.proofs.Serving.{serves_err, serves_ok}
use Rattle.ob_recover.proofs.replaying.replay.Goals as goal

pub of_tables-ring-requires : goal.of_tables-ring-requires
of_tables-ring-requires g c = ring_rules c.args.p.now c.args.found.tables c.requires.found.content c.requires.found.idle

pub repeat_all-requires-clause-stands : goal.repeat_all-requires-clause-stands
repeat_all-requires-clause-stands g c κs within =
    subst (λ (r : Kept). StandsFor r (flat_of r.p (content_of_ring r))) (sym c.of_tables-ring.ensures) (ring_stands c.args.p.now c.args.found.tables c.requires.found.content c.requires.found.idle)

pub returns-in-Ok-clause-fit : goal.returns-in-Ok-clause-fit
returns-in-Ok-clause-fit g c =
    c.in-Ok.ensures.fit (subst IsPlannerFit (sym c.of_tables-ring.ensures) (fit_content c.args.p.now c.args.found.tables c.requires.found.content c.requires.found.idle))

pub returns-in-Ok-clause-stands : goal.returns-in-Ok-clause-stands
returns-in-Ok-clause-stands g c = λ s tells stands is.
    replayed_well c.args.sealer.now.keys c.args.p.now s (g.S.Store.disk c.args.store.now).cells stands c.args.found is c.of_tables-ring.result c.as_slice-logged.result.now c.of_tables-ring.ensures c.as_slice-logged.ensures
    c.repeat_all.new.ring.stash.rows (c.in-Ok.ensures.value tells)

pub returns-clause-stands : goal.returns-clause-stands
returns-clause-stands g c = λ s tells stands is.
    replayed_badly c.args.sealer.now.keys c.args.p.now s (g.S.Store.disk c.args.store.now).cells stands c.args.found is c.of_tables-ring.result c.as_slice-logged.result.now c.of_tables-ring.ensures c.as_slice-logged.ensures
    c.repeat_all.new.ring.stash.rows c.in-Err.fault c.in-Err.ensures.faults (c.in-Err.ensures.value tells)

pub returns-in-Ok-clause-serves : goal.returns-in-Ok-clause-serves
returns-in-Ok-clause-serves g c =
    let serves = c.in-Ok.ensures.serves in
    serves_ok IsStoreFault _ _ _ serves.goes serves.out serves.tells

pub returns-clause-serves : goal.returns-clause-serves
returns-clause-serves g c = serves_err IsStoreFault IsStoreFault _ _ c.in-Err.fault c.in-Err.fault (λ f. f) c.in-Err.ensures.serves

pub returns-clause-faults : goal.returns-clause-faults
returns-clause-faults g c = c.in-Err.ensures.faults

-- ---- the records may be repeated

pub repeat_all-requires-clause-fits : goal.repeat_all-requires-clause-fits
repeat_all-requires-clause-fits g c κs within =
    subst (λ (r : Kept). RecordsFit r.p c.as_slice-logged.result.now) (sym c.of_tables-ring.ensures)
    (subst (λ (rs : List BatchRecord). RecordsFit c.args.p.now rs) (sym c.as_slice-logged.ensures) c.requires.found.records)

pub repeat_all-requires-clause-unlisted : goal.repeat_all-requires-clause-unlisted
repeat_all-requires-clause-unlisted g c κs within = ap (λ (r : Kept). (r.metas).order) c.of_tables-ring.ensures ∙ c.requires.found.idle.order

pub repeat_all-requires-clause-jobs : goal.repeat_all-requires-clause-jobs
repeat_all-requires-clause-jobs g c κs within =
    let made = sym c.of_tables-ring.ensures in
    (c.requires.jobs.0 ∙ ap (λ (r : Kept). most_jobs r.p) made, c.requires.jobs.1 ∙ ap (λ (r : Kept). (r.p).places) made)

pub repeat_all-requires-clause-crew : goal.repeat_all-requires-clause-crew
repeat_all-requires-clause-crew g c κs within = subst (λ (r : Kept). most_jobs r.p ≤ c.args.crew.now.jobs) (sym c.of_tables-ring.ensures) c.requires.crew

-- ---- what the repeats say, of what was found

pub returns-in-Ok-clause-value : goal.returns-in-Ok-clause-value
returns-in-Ok-clause-value g c = λ tells.
    found_answer c.args.p.now c.args.found c.of_tables-ring.result c.as_slice-logged.result.now c.of_tables-ring.ensures c.as_slice-logged.ensures c.args.sealer.now.keys (g.S.Store.disk c.args.store.now).cells
    c.repeat_all.new.ring.stash.rows (Ok tt) (c.in-Ok.ensures.value tells)

pub returns-in-Ok-clause-replayed : goal.returns-in-Ok-clause-replayed
returns-in-Ok-clause-replayed g c = record {
  repeated = found_repeated c.args.p.now c.args.found c.of_tables-ring.result c.as_slice-logged.result.now c.of_tables-ring.ensures c.as_slice-logged.ensures c.repeat_all.new.ring c.in-Ok.ensures.repeated;
  left_are = (let few = c.requires.found.records.few in let same = ap (λ (rs : List BatchRecord). length rs) c.as_slice-logged.ensures in omega (arith, few, same));
}

pub returns-in-Ok-clause-does : goal.returns-in-Ok-clause-does
returns-in-Ok-clause-does g c =
    found_does c.args.p.now c.args.found c.of_tables-ring.result c.as_slice-logged.result.now c.of_tables-ring.ensures c.as_slice-logged.ensures c.args.crew.now.lanes _ _ _ _ (Ok tt) c.in-Ok.ensures.does

pub returns-clause-value : goal.returns-clause-value
returns-clause-value g c = λ tells.
    found_refused c.args.p.now c.args.found c.of_tables-ring.result c.as_slice-logged.result.now c.of_tables-ring.ensures c.as_slice-logged.ensures c.args.sealer.now.keys (g.S.Store.disk c.args.store.now).cells
    c.repeat_all.new.ring.stash.rows c.in-Err.fault (c.in-Err.ensures.value tells)

pub returns-clause-does : goal.returns-clause-does
returns-clause-does g c =
    found_does c.args.p.now c.args.found c.of_tables-ring.result c.as_slice-logged.result.now c.of_tables-ring.ensures c.as_slice-logged.ensures c.args.crew.now.lanes _ _ _ _ (Err c.in-Err.fault) c.in-Err.ensures.does

pub returns-in-Ok-clause-keeps : goal.returns-in-Ok-clause-keeps
returns-in-Ok-clause-keeps g c = c.in-Ok.ensures.keeps

pub returns-in-Ok-clause-passes : goal.returns-in-Ok-clause-passes
returns-in-Ok-clause-passes g c = c.in-Ok.ensures.passes

pub returns-in-Ok-clause-rooms : goal.returns-in-Ok-clause-rooms
returns-in-Ok-clause-rooms g c = c.in-Ok.ensures.rooms

pub returns-in-Ok-clause-crew : goal.returns-in-Ok-clause-crew
returns-in-Ok-clause-crew g c = c.in-Ok.ensures.crew

pub returns-clause-keeps : goal.returns-clause-keeps
returns-clause-keeps g c = c.in-Err.ensures.keeps

pub returns-clause-passes : goal.returns-clause-passes
returns-clause-passes g c = c.in-Err.ensures.passes

pub returns-clause-rooms : goal.returns-clause-rooms
returns-clause-rooms g c = c.in-Err.ensures.rooms

pub returns-clause-crew : goal.returns-clause-crew
returns-clause-crew g c = c.in-Err.ensures.crew
