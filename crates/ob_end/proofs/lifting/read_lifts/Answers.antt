use Rattle.std.proofs.Common.{◌<◌, Ok, Err, ◌∙◌, ap, arith, subst, sym}
use Rattle.std.specs.Prelude.{IfSome}
use Rattle.ob_base.specs.declared.fault.Fault.{Fault}
use Rattle.ob_base.specs.Planned.{job_at, Planned}
use Rattle.ob_ring.specs.Ring.{Kept, IsListed}
use Rattle.ob_ring.specs.Settling.{rows_after}
use Rattle.ob_recover.proofs.BatchLaws.{keys_low, stands_kept}
use Rattle.ob_recover.proofs.ShowLaws.{none_are_placed}
use Rattle.ob_recover.specs.Repeats.{BatchTells, IsRepeatFault}
use Rattle.ob_end.proofs.LiftReads.{kept_planned, kept_settled, lifted_badly, lifted_well, lifts_tell, not_lifted, planned_few, rows_join}
use Rattle.ob_end.proofs.LiftsStand.{undamaged}
use Rattle.ob_end.specs.Lifts.{LiftsAnswer, lift_cells, lift_notes}
use Rattle.ob_ring.specs.Picked.{SameSeals}
use Rattle.ob_store.specs.Calls.{IsStoreFault, Serves}
use Rattle.ob_end.proofs.lifting.read_lifts.Goals as goal

pub read_jobs-requires-clause-placed : goal.read_jobs-requires-clause-placed
read_jobs-requires-clause-placed g c κs within = none_are_placed c.plan_lifts.new.jobs c.plan_lifts.ensures.places

pub read_jobs-requires-clause-few : goal.read_jobs-requires-clause-few
read_jobs-requires-clause-few g c κs within =
    let ring = c.args.ring.now in
    let planned = c.plan_lifts.ensures.planned c.requires.stands.0 c.requires.stands.1 in
    let few = planned_few ring.p c.requires.stands.0 ring.metas.versions c.plan_lifts.new.jobs.jobs planned.jobs in
    let most = c.requires.crew in
    omega arith

pub returns-in-Err-clause-value : goal.returns-in-Err-clause-value
returns-in-Err-clause-value g c = λ start t seals stands tells.
    not_lifted c.args.sealer.now.keys (g.S.Store.disk c.args.store.now).cells c.args.ring.now c.plan_lifts.new.self c.plan_lifts.new.jobs c.read_jobs.new.jobs.jobs start t seals
    (c.plan_lifts.ensures.planned t stands) c.args.ring.now.stash.rows c.plan_lifts.new.self.stash.rows c.in-Err.fault c.in-Err.ensures.faults (c.in-Err.ensures.value tells)

pub returns-in-Err-clause-told : goal.returns-in-Err-clause-told
returns-in-Err-clause-told g c = λ start t seals stands.
    lifts_tell c.args.crew.now.lanes c.args.ring.now c.plan_lifts.new.self c.plan_lifts.new.jobs c.plan_lifts.ensures.places start t seals (c.plan_lifts.ensures.planned t stands) _ _ _ _ (Err c.in-Err.fault) c.in-Err.ensures.told

pub returns-in-Err-clause-sound : goal.returns-in-Err-clause-sound
returns-in-Err-clause-sound g c = λ s epoch generation left tells stands runs.
    undamaged c.args.sealer.now.keys c.args.ring.now.p c.args.ring.now s epoch generation left (g.S.Store.disk c.args.store.now).cells stands runs c.plan_lifts.new.self.stash.rows c.in-Err.fault
    (λ start t seals stood. returns-in-Err-clause-value g c start t seals stood tells)

pub settle-requires : goal.settle-requires
settle-requires g c = record {
  keys = λ i.
      let p_same = ap (λ (r : Kept). r.p) c.plan_lifts.ensures.kept in
      subst (λ p. IfSome (job_at c.read_jobs.new.jobs.jobs i).key (λ k. k < p.keys)) (sym p_same)
      (keys_low c.args.ring.now.p.keys c.plan_lifts.new.jobs.jobs c.read_jobs.new.jobs.jobs c.in-Ok.ensures.keys (c.plan_lifts.ensures.keys c.requires.stands.0 c.requires.stands.1) i);
}

pub returns-in-Ok-settle-clause-value : goal.returns-in-Ok-settle-clause-value
returns-in-Ok-settle-clause-value g c = λ start t seals stands tells.
    let jobs = c.read_jobs.new.jobs.jobs in
    let settled = c.in-Ok-settle.ensures.settled in
    lifted_well c.args.sealer.now.keys (g.S.Store.disk c.args.store.now).cells c.args.ring.now c.plan_lifts.new.self c.plan_lifts.new.jobs jobs start t seals
    (c.plan_lifts.ensures.planned t stands) c.args.ring.now.stash.rows c.settle.new.self.stash.rows (c.in-Ok.ensures.value tells) settled.0
    (settled.1 ∙ ap (λ (r : Kept). rows_after (r.stash).rows jobs) c.plan_lifts.ensures.kept)

pub returns-in-Ok-settle-clause-joins : goal.returns-in-Ok-settle-clause-joins
returns-in-Ok-settle-clause-joins g c = λ t stands.
    let jobs = c.read_jobs.new.jobs.jobs in
    let settled = c.in-Ok-settle.ensures.settled in
    let filled = c.in-Ok.ensures.filled in
    rows_join c.args.ring.now c.plan_lifts.new.self c.plan_lifts.new.jobs jobs t c.args.ring.now.stash.rows c.settle.new.self.stash.rows filled.0 (c.plan_lifts.ensures.planned t stands) filled.1
    settled.0 (settled.1 ∙ ap (λ (r : Kept). rows_after (r.stash).rows jobs) c.plan_lifts.ensures.kept)

pub returns-in-Ok-settle-clause-told : goal.returns-in-Ok-settle-clause-told
returns-in-Ok-settle-clause-told g c = λ start t seals stands.
    lifts_tell c.args.crew.now.lanes c.args.ring.now c.plan_lifts.new.self c.plan_lifts.new.jobs c.plan_lifts.ensures.places start t seals (c.plan_lifts.ensures.planned t stands) _ _ _ _ (Ok tt) c.in-Ok.ensures.told

pub returns-in-Err-settle-clause-value : goal.returns-in-Err-settle-clause-value
returns-in-Err-settle-clause-value g c = λ start t seals stands tells.
    let keys = c.args.sealer.now.keys in
    let image = (g.S.Store.disk c.args.store.now).cells in
    subst (λ (f : Fault). LiftsAnswer keys c.args.ring.now.p start.versions image t c.args.ring.now.stash.rows c.settle.new.self.stash.rows (Err f)) (sym c.from.ensures)
    (lifted_badly keys image c.args.ring.now c.plan_lifts.new.self c.plan_lifts.new.jobs c.read_jobs.new.jobs.jobs start t seals
    (c.plan_lifts.ensures.planned t stands) c.args.ring.now.stash.rows c.settle.new.self.stash.rows c.in-Err-settle.damaged (c.in-Ok.ensures.value tells) c.in-Err-settle.ensures.settled)

pub returns-in-Err-settle-clause-sound : goal.returns-in-Err-settle-clause-sound
returns-in-Err-settle-clause-sound g c = λ s epoch generation left tells stands runs.
    undamaged c.args.sealer.now.keys c.args.ring.now.p c.args.ring.now s epoch generation left (g.S.Store.disk c.args.store.now).cells stands runs c.settle.new.self.stash.rows c.from.result
    (λ start t seals stood. returns-in-Err-settle-clause-value g c start t seals stood tells)

pub returns-in-Err-settle-clause-told : goal.returns-in-Err-settle-clause-told
returns-in-Err-settle-clause-told g c = λ start t seals stands.
    let p = c.args.ring.now.p in
    subst (λ (f : Fault). BatchTells c.args.crew.now.lanes (lift_cells p start.versions t) (lift_notes p start.versions t) (g.S.Store.disk c.args.store.now).seen (g.S.Store.disk c.read_jobs.new.store).seen
    (g.W.Watch.trace c.args.watch.now) (g.W.Watch.trace c.read_jobs.new.watch) (Err f)) (sym c.from.ensures)
    (lifts_tell c.args.crew.now.lanes c.args.ring.now c.plan_lifts.new.self c.plan_lifts.new.jobs c.plan_lifts.ensures.places start t seals (c.plan_lifts.ensures.planned t stands) _ _ _ _ (Ok tt) c.in-Ok.ensures.told)

pub returns-in-Err-clause-serves : goal.returns-in-Err-clause-serves
returns-in-Err-clause-serves g c = c.in-Err.ensures.serves

pub returns-in-Err-clause-faults : goal.returns-in-Err-clause-faults
returns-in-Err-clause-faults g c = c.in-Err.ensures.faults

pub returns-in-Err-clause-rooms : goal.returns-in-Err-clause-rooms
returns-in-Err-clause-rooms g c = (ap (λ (j : Planned). j.room) c.read_jobs.ensures.rest ∙ c.plan_lifts.ensures.rooms.0, ap (λ (j : Planned). j.place_room) c.read_jobs.ensures.rest ∙ c.plan_lifts.ensures.rooms.1)

pub returns-in-Ok-settle-clause-rooms : goal.returns-in-Ok-settle-clause-rooms
returns-in-Ok-settle-clause-rooms g c = (ap (λ (j : Planned). j.room) c.read_jobs.ensures.rest ∙ c.plan_lifts.ensures.rooms.0, ap (λ (j : Planned). j.place_room) c.read_jobs.ensures.rest ∙ c.plan_lifts.ensures.rooms.1)

pub returns-in-Err-settle-clause-rooms : goal.returns-in-Err-settle-clause-rooms
returns-in-Err-settle-clause-rooms g c = (ap (λ (j : Planned). j.room) c.read_jobs.ensures.rest ∙ c.plan_lifts.ensures.rooms.0, ap (λ (j : Planned). j.place_room) c.read_jobs.ensures.rest ∙ c.plan_lifts.ensures.rooms.1)

pub returns-in-Err-clause-seals : goal.returns-in-Err-clause-seals
returns-in-Err-clause-seals g c = c.plan_lifts.ensures.seals

pub returns-in-Err-clause-listed : goal.returns-in-Err-clause-listed
returns-in-Err-clause-listed g c = c.plan_lifts.ensures.listed

pub returns-in-Err-clause-table : goal.returns-in-Err-clause-table
returns-in-Err-clause-table g c = λ t stands. (c.plan_lifts.ensures.planned t stands).table

pub returns-in-Ok-settle-clause-serves : goal.returns-in-Ok-settle-clause-serves
returns-in-Ok-settle-clause-serves g c = c.in-Ok.ensures.serves

pub returns-in-Err-settle-clause-serves : goal.returns-in-Err-settle-clause-serves
returns-in-Err-settle-clause-serves g c =
    let serves = c.read_jobs.ensures.serves in
    subst (λ (f : Fault). Serves {T = Unit {0}} IsStoreFault (g.S.Store.disk c.args.store.now) (g.S.Store.disk c.read_jobs.new.store) (Err f)) (sym c.from.ensures) (record { goes = serves.goes; out = serves.out; tells = tt; cause = λ never. absurd never })

pub returns-in-Err-settle-clause-faults : goal.returns-in-Err-settle-clause-faults
returns-in-Err-settle-clause-faults g c = subst IsRepeatFault (sym c.from.ensures) tt

pub returns-in-Ok-settle-clause-room : goal.returns-in-Ok-settle-clause-room
returns-in-Ok-settle-clause-room g c = c.in-Ok-settle.ensures.room ∙ ap (λ (r : Kept). (r.stash).room) c.plan_lifts.ensures.kept

pub returns-in-Ok-settle-clause-seals : goal.returns-in-Ok-settle-clause-seals
returns-in-Ok-settle-clause-seals g c = subst (λ (r : Kept). SameSeals (record c.args.ring.now.metas { order = (r.metas).order }) r.metas) (sym c.in-Ok-settle.ensures.kept) c.plan_lifts.ensures.seals

pub returns-in-Ok-settle-clause-listed : goal.returns-in-Ok-settle-clause-listed
returns-in-Ok-settle-clause-listed g c = subst IsListed (sym c.in-Ok-settle.ensures.kept) c.plan_lifts.ensures.listed

pub returns-in-Ok-settle-clause-table : goal.returns-in-Ok-settle-clause-table
returns-in-Ok-settle-clause-table g c = λ t stands. stands_kept c.plan_lifts.new.self c.settle.new.self c.settle.new.self.stash c.in-Ok-settle.ensures.kept _ (c.plan_lifts.ensures.planned t stands).table

pub returns-in-Err-settle-clause-room : goal.returns-in-Err-settle-clause-room
returns-in-Err-settle-clause-room g c = c.in-Err-settle.ensures.room ∙ ap (λ (r : Kept). (r.stash).room) c.plan_lifts.ensures.kept

pub returns-in-Err-settle-clause-seals : goal.returns-in-Err-settle-clause-seals
returns-in-Err-settle-clause-seals g c = subst (λ (r : Kept). SameSeals (record c.args.ring.now.metas { order = (r.metas).order }) r.metas) (sym c.in-Err-settle.ensures.kept) c.plan_lifts.ensures.seals

pub returns-in-Err-settle-clause-listed : goal.returns-in-Err-settle-clause-listed
returns-in-Err-settle-clause-listed g c = subst IsListed (sym c.in-Err-settle.ensures.kept) c.plan_lifts.ensures.listed

pub returns-in-Err-settle-clause-table : goal.returns-in-Err-settle-clause-table
returns-in-Err-settle-clause-table g c = λ t stands. stands_kept c.plan_lifts.new.self c.settle.new.self c.settle.new.self.stash c.in-Err-settle.ensures.kept _ (c.plan_lifts.ensures.planned t stands).table

-- ---- what stays

pub returns-in-Err-clause-keeps : goal.returns-in-Err-clause-keeps
returns-in-Err-clause-keeps g c = c.read_jobs.ensures.keeps

pub returns-in-Err-clause-passes : goal.returns-in-Err-clause-passes
returns-in-Err-clause-passes g c = c.read_jobs.ensures.passes

pub returns-in-Err-clause-crew : goal.returns-in-Err-clause-crew
returns-in-Err-clause-crew g c = c.read_jobs.ensures.crew

pub returns-in-Ok-settle-clause-keeps : goal.returns-in-Ok-settle-clause-keeps
returns-in-Ok-settle-clause-keeps g c = c.read_jobs.ensures.keeps

pub returns-in-Ok-settle-clause-passes : goal.returns-in-Ok-settle-clause-passes
returns-in-Ok-settle-clause-passes g c = c.read_jobs.ensures.passes

pub returns-in-Ok-settle-clause-crew : goal.returns-in-Ok-settle-clause-crew
returns-in-Ok-settle-clause-crew g c = c.read_jobs.ensures.crew

pub returns-in-Err-settle-clause-keeps : goal.returns-in-Err-settle-clause-keeps
returns-in-Err-settle-clause-keeps g c = c.read_jobs.ensures.keeps

pub returns-in-Err-settle-clause-passes : goal.returns-in-Err-settle-clause-passes
returns-in-Err-settle-clause-passes g c = c.read_jobs.ensures.passes

pub returns-in-Err-settle-clause-crew : goal.returns-in-Err-settle-clause-crew
returns-in-Err-settle-clause-crew g c = c.read_jobs.ensures.crew

pub returns-in-Err-clause-kept : goal.returns-in-Err-clause-kept
returns-in-Err-clause-kept g c = kept_planned c.args.ring.now c.plan_lifts.new.self _ c.plan_lifts.ensures.kept

pub returns-in-Err-clause-room : goal.returns-in-Err-clause-room
returns-in-Err-clause-room g c = ap (λ (r : Kept). (r.stash).room) c.plan_lifts.ensures.kept

pub returns-in-Ok-settle-clause-kept : goal.returns-in-Ok-settle-clause-kept
returns-in-Ok-settle-clause-kept g c = kept_settled c.args.ring.now c.plan_lifts.new.self c.settle.new.self _ c.plan_lifts.ensures.kept c.in-Ok-settle.ensures.kept

pub returns-in-Err-settle-clause-kept : goal.returns-in-Err-settle-clause-kept
returns-in-Err-settle-clause-kept g c = kept_settled c.args.ring.now c.plan_lifts.new.self c.settle.new.self _ c.plan_lifts.ensures.kept c.in-Err-settle.ensures.kept
