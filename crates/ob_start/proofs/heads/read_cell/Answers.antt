use Rattle.std.proofs.Common.{[], ◌∷◌}
use Rattle.ob_store.specs.declared.watch.Note.TheVariants.{Read}
use Rattle.ob_store.proofs.Doing.{does_refused, does_both}
use Rattle.ob_store.proofs.Lanes.{first_none, lane_does}
use Rattle.ob_store.proofs.Keeping.{same_none, same_still}
use Rattle.ob_start.proofs.heads.read_cell.Goals as goal

pub returns-in_err-lane-clause-does : goal.returns-in_err-lane-clause-does
returns-in_err-lane-clause-does g c =
    does_refused _ _ _ _ (Read c.args.cell ∷ []) c.from_residual.result c.from_residual.ensures.0 (first_none (Read c.args.cell ∷ []) _ _ _ c.lane.ensures.seen)

pub returns-clause-does : goal.returns-clause-does
returns-clause-does g c =
    lane_does (Read c.args.cell ∷ []) _ _ _ _ _ _ _ c.read_noted-outcome.result c.in_ok-lane.ensures.fresh_seen c.lane.ensures.seen
    (does_both _ _ _ _ (Read c.args.cell ∷ []) c.read_noted-outcome.result c.read_noted-outcome.ensures.told) c.absorb.ensures.seen

pub returns-in_err-lane-clause-passes : goal.returns-in_err-lane-clause-passes
returns-in_err-lane-clause-passes g c =
    let old = g.S.Store.disk c.args.store.now in
    let lane = c.lane.ensures in
    same_still old old (g.S.Store.disk c.lane.new.self) (same_none old) lane.goes lane.time lane.crash lane.keeps

pub returns-clause-passes : goal.returns-clause-passes
returns-clause-passes g c =
    let old = g.S.Store.disk c.args.store.now in
    let mid = g.S.Store.disk c.lane.new.self in
    let lane = c.lane.ensures in
    let back = c.absorb.ensures in
    same_still old mid (g.S.Store.disk c.absorb.new.self) (same_still old old mid (same_none old) lane.goes lane.time lane.crash lane.keeps) back.goes back.time back.crash back.keeps
