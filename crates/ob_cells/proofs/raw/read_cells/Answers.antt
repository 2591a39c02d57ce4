use Rattle.std.proofs.Common.{length}
use Rattle.ob_store.proofs.Doing.{does_refused}
use Rattle.ob_cells.specs.Orders.{read_notes}
use Rattle.ob_store.proofs.Lanes.{first_none}
use Rattle.ob_store.proofs.Keeping.{same_none, same_still}
use Rattle.ob_cells.proofs.raw.read_cells.Goals as goal

pub returns-in_err-lane-clause-does : goal.returns-in_err-lane-clause-does
returns-in_err-lane-clause-does g c = does_refused _ _ _ _ (read_notes c.args.base (length c.args.cells.now)) c.from_residual.result c.from_residual.ensures.0
    (first_none (read_notes c.args.base (length c.args.cells.now)) _ _ _ c.in_err-lane.ensures.seen)

pub returns-in_err-lane-clause-passes : goal.returns-in_err-lane-clause-passes
returns-in_err-lane-clause-passes g c =
    let old = g.S.Store.disk c.args.store.now in
    let lane = c.lane.ensures in
    same_still old old (g.S.Store.disk c.lane.new.self) (same_none old) lane.goes lane.time lane.crash lane.keeps

pub returns-clause-passes : goal.returns-clause-passes
returns-clause-passes g c =
    let old = g.S.Store.disk c.args.store.now in
    let mid = g.S.Store.disk c.lane.new.self in
    let lane = c.lane.ensures in
    let back = c.absorb.ensures in
    same_still old mid (g.S.Store.disk c.absorb.new.self) (same_still old old mid (same_none old) lane.goes lane.time lane.crash lane.keeps) back.goes back.time back.crash back.keeps
