use Rattle.std.proofs.Common.{rules, [], ◌∷◌, ◌++◌, Ok, inl, refl, arith}
use Rattle.ob_base.specs.declared.fault.Failed.{Failed}
use Rattle.ob_store.specs.declared.event.Event.TheVariants.{Sync}
use Rattle.ob_store.specs.Images.{SameOff}
use Rattle.ob_store.proofs.Events.{first_more, joined, none_noted}
use Rattle.ob_store.proofs.Doing.{does_both, does_err}
use Rattle.ob_store.proofs.Lanes.{first_none, lane_does}
use Rattle.ob_store.proofs.Moments.{passed_none, passed_still}
use Rattle.ob_store.proofs.Serving.{goes_same, goes_then}
use Rattle.ob_mirror.specs.Joins.{cell_writes, reads_from}
use Rattle.ob_mirror.proofs.Joined.{all_as_far, copy_cause, is_copy, none_as_far, only_read_both, only_read_one, rest_on, sync_cause, tells_on}
use Rattle.ob_mirror.proofs.joining.join.Goals as goal

-- ---- no lane was made

pub returns-in-Err-clause-first : goal.returns-in-Err-clause-first
returns-in-Err-clause-first g c = let made = c.in-Err.ensures in only_read_one (g.A.Store.disk c.args.first.now) (g.A.Store.disk c.lane.new.self) made.goes made.keeps made.crash made.time made.out_err

pub returns-in-Err-clause-first_does : goal.returns-in-Err-clause-first_does
returns-in-Err-clause-first_does g c = does_err _ _ _ _ (reads_from 0 c.args.cells) _ (first_none (reads_from 0 c.args.cells) _ _ _ c.in-Err.ensures.seen)

pub returns-in-Err-clause-second : goal.returns-in-Err-clause-second
returns-in-Err-clause-second g c = goes_same _

pub returns-in-Err-clause-second_seen : goal.returns-in-Err-clause-second_seen
returns-in-Err-clause-second_seen g c = none_as_far _ _ _ (none_noted _)

pub returns-in-Err-clause-second_out : goal.returns-in-Err-clause-second_out
returns-in-Err-clause-second_out g c = omega arith

pub returns-in-Err-clause-second_rest : goal.returns-in-Err-clause-second_rest
returns-in-Err-clause-second_rest g c = λ tells k off. refl

pub returns-in-Err-clause-second_passes : goal.returns-in-Err-clause-second_passes
returns-in-Err-clause-second_passes g c = passed_none _ (SameOff 0 c.args.cells) (λ image k off. refl)

pub returns-in-Err-clause-cause : goal.returns-in-Err-clause-cause
returns-in-Err-clause-cause g c = inl c.in-Err.ensures.cause.failed

-- ---- all was copied

pub copy_cells-copied-requires : goal.copy_cells-copied-requires
copy_cells-copied-requires g c = search rules

pub sync-requires : goal.sync-requires
sync-requires g c = c.copy_cells-copied.ensures.out

pub returns-in-Ok-copied-clause-first : goal.returns-in-Ok-copied-clause-first
returns-in-Ok-copied-clause-first g c =
    let made = c.in-Ok.ensures in
    let back = c.absorb.ensures in
    only_read_both (g.A.Store.disk c.args.first.now) (g.A.Store.disk c.lane.new.self) (g.A.Store.disk c.absorb.new.self) made.goes made.keeps made.crash made.time made.out back.goes back.keeps back.crash back.time back.out

pub returns-in-Ok-copied-clause-first_does : goal.returns-in-Ok-copied-clause-first_does
returns-in-Ok-copied-clause-first_does g c =
    let seen = g.A.Store.lane_seen in
    let made = c.in-Ok.ensures in
    let disk = g.A.Store.disk in
    does_both _ _ _ _ (reads_from 0 c.args.cells) c.sync.result
    (lane_does {T = Unit {0}} {E = Failed} (reads_from 0 c.args.cells) (disk c.args.first.now).seen (disk c.lane.new.self).seen (seen c.in-Ok.lane) (seen c.copy_cells-copied.new.lane) (disk c.absorb.new.self).seen _ _ (Ok tt) made.fresh_seen made.seen c.in-Ok-copied.ensures.reads c.absorb.ensures.seen).all

pub returns-in-Ok-copied-clause-second : goal.returns-in-Ok-copied-clause-second
returns-in-Ok-copied-clause-second g c = goes_then (g.B.Store.disk c.args.second.now) (g.B.Store.disk c.copy_cells-copied.new.second) (g.B.Store.disk c.sync.new.self) c.copy_cells-copied.ensures.goes c.sync.ensures.serves.goes

pub returns-in-Ok-copied-clause-second_seen : goal.returns-in-Ok-copied-clause-second_seen
returns-in-Ok-copied-clause-second_seen g c =
    let disk = g.B.Store.disk in
    all_as_far (cell_writes c.args.cells ++ Sync ∷ []) (disk c.args.second.now).seen (disk c.sync.new.self).seen c.sync.result
    (joined (cell_writes c.args.cells) (Sync ∷ []) (disk c.args.second.now).seen (disk c.copy_cells-copied.new.second).seen (disk c.sync.new.self).seen c.in-Ok-copied.ensures.writes c.sync.ensures.seen)

pub returns-in-Ok-copied-clause-second_out : goal.returns-in-Ok-copied-clause-second_out
returns-in-Ok-copied-clause-second_out g c = let none = c.copy_cells-copied.ensures.out in let still = c.sync.ensures.serves.out in omega (arith, none, still)

pub returns-in-Ok-copied-clause-second_tells : goal.returns-in-Ok-copied-clause-second_tells
returns-in-Ok-copied-clause-second_tells g c = tells_on (g.B.Store.disk c.args.second.now) (g.B.Store.disk c.copy_cells-copied.new.second) (g.B.Store.disk c.sync.new.self) c.sync.result c.in-Ok-copied.ensures.tells c.sync.ensures.serves

pub returns-in-Ok-copied-clause-second_rest : goal.returns-in-Ok-copied-clause-second_rest
returns-in-Ok-copied-clause-second_rest g c = rest_on c.args.cells (g.B.Store.disk c.args.second.now) (g.B.Store.disk c.copy_cells-copied.new.second) (g.B.Store.disk c.sync.new.self) c.in-Ok-copied.ensures.tells c.copy_cells-copied.ensures.rest c.sync.ensures.keeps

pub returns-in-Ok-copied-clause-second_passes : goal.returns-in-Ok-copied-clause-second_passes
returns-in-Ok-copied-clause-second_passes g c =
    let synced = c.sync.ensures in
    passed_still (SameOff 0 c.args.cells) (g.B.Store.disk c.args.second.now) (g.B.Store.disk c.copy_cells-copied.new.second) (g.B.Store.disk c.sync.new.self) c.copy_cells-copied.ensures.passes synced.serves.goes synced.time synced.crash synced.keeps

pub returns-in-Ok-copied-clause-copied : goal.returns-in-Ok-copied-clause-copied
returns-in-Ok-copied-clause-copied g c =
    let copied = c.in-Ok-copied.ensures in
    let back = c.absorb.ensures in
    let synced = c.sync.ensures in
    is_copy c.args.cells (g.A.Store.disk c.lane.new.self) (g.B.Store.disk c.args.second.now) (g.B.Store.disk c.copy_cells-copied.new.second) (g.A.Store.disk c.absorb.new.self) (g.B.Store.disk c.sync.new.self) c.sync.result
    copied.copied back.goes back.keeps copied.goes synced.serves synced.keeps synced.durable

pub returns-in-Ok-copied-clause-cause : goal.returns-in-Ok-copied-clause-cause
returns-in-Ok-copied-clause-cause g c = sync_cause _ (g.B.Store.disk c.args.second.now) (g.B.Store.disk c.copy_cells-copied.new.second) (g.B.Store.disk c.sync.new.self) c.sync.result c.copy_cells-copied.ensures.goes c.sync.ensures.serves

-- ---- a read or a write was refused

pub returns-in-Err-copied-clause-first : goal.returns-in-Err-copied-clause-first
returns-in-Err-copied-clause-first g c =
    let made = c.in-Ok.ensures in
    let back = c.absorb.ensures in
    only_read_both (g.A.Store.disk c.args.first.now) (g.A.Store.disk c.lane.new.self) (g.A.Store.disk c.absorb.new.self) made.goes made.keeps made.crash made.time made.out back.goes back.keeps back.crash back.time back.out

pub returns-in-Err-copied-clause-first_does : goal.returns-in-Err-copied-clause-first_does
returns-in-Err-copied-clause-first_does g c =
    let seen = g.A.Store.lane_seen in
    let made = c.in-Ok.ensures in
    let disk = g.A.Store.disk in
    lane_does (reads_from 0 c.args.cells) (disk c.args.first.now).seen (disk c.lane.new.self).seen (seen c.in-Ok.lane) (seen c.copy_cells-copied.new.lane) (disk c.absorb.new.self).seen _ _ _ made.fresh_seen made.seen c.in-Err-copied.ensures.reads c.absorb.ensures.seen

pub returns-in-Err-copied-clause-second : goal.returns-in-Err-copied-clause-second
returns-in-Err-copied-clause-second g c = c.copy_cells-copied.ensures.goes

pub returns-in-Err-copied-clause-second_seen : goal.returns-in-Err-copied-clause-second_seen
returns-in-Err-copied-clause-second_seen g c = first_more (cell_writes c.args.cells) (Sync ∷ []) (g.B.Store.disk c.args.second.now).seen (g.B.Store.disk c.copy_cells-copied.new.second).seen c.in-Err-copied.ensures.writes

pub returns-in-Err-copied-clause-second_out : goal.returns-in-Err-copied-clause-second_out
returns-in-Err-copied-clause-second_out g c = let none = c.copy_cells-copied.ensures.out in omega (arith, none)

pub returns-in-Err-copied-clause-second_rest : goal.returns-in-Err-copied-clause-second_rest
returns-in-Err-copied-clause-second_rest g c = c.copy_cells-copied.ensures.rest

pub returns-in-Err-copied-clause-second_passes : goal.returns-in-Err-copied-clause-second_passes
returns-in-Err-copied-clause-second_passes g c = c.copy_cells-copied.ensures.passes

pub returns-in-Err-copied-clause-cause : goal.returns-in-Err-copied-clause-cause
returns-in-Err-copied-clause-cause g c =
    let made = c.in-Ok.ensures in
    let back = c.absorb.ensures in
    let disk = g.A.Store.disk in
    copy_cause (disk c.args.first.now).faults (disk c.lane.new.self).faults (disk c.absorb.new.self).faults (g.A.Store.lane_faults c.in-Ok.lane) (g.A.Store.lane_faults c.copy_cells-copied.new.lane) _ made.goes.faults made.fresh back.goes.faults back.faults c.in-Err-copied.ensures.cause
