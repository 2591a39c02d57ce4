use Rattle.std.proofs.Common.{Ok, Err}
use Rattle.ob_store.proofs.Doing.{does_err}
use Rattle.ob_store.proofs.Lanes.{first_none, lane_does}
use Rattle.ob_mirror.specs.Joins.{reads_from}
use Rattle.ob_mirror.proofs.Joined.{only_read_both, only_read_one, read_cause}
use Rattle.ob_mirror.proofs.reading.read_cells.Goals as goal

pub returns-in-Err-clause-first : goal.returns-in-Err-clause-first
returns-in-Err-clause-first g c = let made = c.in-Err.ensures in only_read_one (g.A.Store.disk c.args.first.now) (g.A.Store.disk c.lane.new.self) made.goes made.keeps made.crash made.time made.out_err

pub returns-in-Err-clause-does : goal.returns-in-Err-clause-does
returns-in-Err-clause-does g c = does_err _ _ _ _ (reads_from c.args.base c.args.count) _ (first_none (reads_from c.args.base c.args.count) _ _ _ c.in-Err.ensures.seen)

pub returns-in-Err-clause-cause : goal.returns-in-Err-clause-cause
returns-in-Err-clause-cause g c = c.in-Err.ensures.cause.failed

pub returns-clause-first : goal.returns-clause-first
returns-clause-first g c =
    let made = c.in-Ok.ensures in
    let back = c.absorb.ensures in
    only_read_both (g.A.Store.disk c.args.first.now) (g.A.Store.disk c.lane.new.self) (g.A.Store.disk c.absorb.new.self) made.goes made.keeps made.crash made.time made.out back.goes back.keeps back.crash back.time back.out

pub returns-clause-does : goal.returns-clause-does
returns-clause-does g c =
    let seen = g.A.Store.lane_seen in
    let disk = g.A.Store.disk in
    let made = c.in-Ok.ensures in
    lane_does (reads_from c.args.base c.args.count) (disk c.args.first.now).seen (disk c.lane.new.self).seen (seen c.in-Ok.lane) (seen c.read_each-read.new.lane) (disk c.absorb.new.self).seen _ _ c.read_each-read.result made.fresh_seen made.seen c.read_each-read.ensures.does c.absorb.ensures.seen

pub returns-clause-cause : goal.returns-clause-cause
returns-clause-cause g c =
    let made = c.in-Ok.ensures in
    let back = c.absorb.ensures in
    let disk = g.A.Store.disk in
    read_cause (disk c.args.first.now).faults (disk c.lane.new.self).faults (disk c.absorb.new.self).faults (g.A.Store.lane_faults c.in-Ok.lane) (g.A.Store.lane_faults c.read_each-read.new.lane) c.read_each-read.result made.goes.faults made.fresh back.goes.faults back.faults c.read_each-read.ensures.cause
