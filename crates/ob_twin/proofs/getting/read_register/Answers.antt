use Rattle.ob_store.proofs.Doing.{does_refused}
use Rattle.ob_twin.specs.Orders.{get_notes}
use Rattle.ob_store.proofs.Lanes.{first_none, lane_does}
use Rattle.ob_store.proofs.Keeping.{keeps_then, same_none, same_still}
use Rattle.ob_twin.proofs.Lent.{lent_serves}
use Rattle.ob_twin.proofs.getting.read_register.Goals as goal

pub returns-in_err-lane-clause-does : goal.returns-in_err-lane-clause-does
returns-in_err-lane-clause-does g c =
    does_refused _ _ _ _ (get_notes c.args.first) c.from_residual.result c.from_residual.ensures.0 (first_none (get_notes c.args.first) _ _ _ c.lane.ensures.seen)

pub returns-clause-does : goal.returns-clause-does
returns-clause-does g c =
    lane_does (get_notes c.args.first) _ _ _ _ _ _ _ c.read_cells-outcome.result c.in_ok-lane.ensures.fresh_seen c.lane.ensures.seen c.read_cells-outcome.ensures.does c.absorb.ensures.seen

pub returns-in_err-lane-clause-passes : goal.returns-in_err-lane-clause-passes
returns-in_err-lane-clause-passes g c =
    let old = g.S.Store.disk c.args.store.now in
    same_still old old (g.S.Store.disk c.lane.new.self) (same_none old) c.lane.ensures.goes c.lane.ensures.time c.lane.ensures.crash c.lane.ensures.keeps

pub returns-clause-serves : goal.returns-clause-serves
returns-clause-serves g c =
    let lane = c.lane.ensures in
    let back = c.absorb.ensures in
    lent_serves (g.S.Store.disk c.args.store.now) (g.S.Store.disk c.lane.new.self) (g.S.Store.disk c.absorb.new.self) _ _ c.read_cells-outcome.result lane.goes back.goes c.in_ok-lane.ensures.out back.out lane.keeps back.keeps
    c.in_ok-lane.ensures.fresh c.read_cells-outcome.ensures.cause back.faults

pub returns-clause-keeps : goal.returns-clause-keeps
returns-clause-keeps g c = keeps_then _ (g.S.Store.disk c.lane.new.self) _ c.lane.ensures.keeps c.absorb.ensures.keeps

pub returns-clause-passes : goal.returns-clause-passes
returns-clause-passes g c =
    let old = g.S.Store.disk c.args.store.now in
    let mid = g.S.Store.disk c.lane.new.self in
    let lane = c.lane.ensures in
    let back = c.absorb.ensures in
    same_still old mid (g.S.Store.disk c.absorb.new.self) (same_still old old mid (same_none old) lane.goes lane.time lane.crash lane.keeps) back.goes back.time back.crash back.keeps
