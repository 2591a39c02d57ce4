use Rattle.std.proofs.Common.{length, None}
use Rattle.ob_base.specs.declared.fault.Fault.TheVariants.{StoreFault}
use Rattle.ob_store.proofs.Doing.{does_err}
use Rattle.ob_cells.specs.Orders.{read_notes}
use Rattle.ob_store.proofs.Lanes.{first_none}
use Rattle.ob_store.proofs.Keeping.{same_none, same_still}
use Rattle.ob_flat.proofs.RowReads.{read_alike}
use Rattle.ob_flat.proofs.reading.read_rows.Goals as goal

pub returns-clause-value : goal.returns-clause-value
returns-clause-value g c = λ tells.
    let keeps = c.in-Ok.ensures.keeps in
    read_alike c.args.sealer.now.keys c.args.base (g.S.Store.disk c.lane.new.self).cells (g.S.Store.disk c.args.store.now).cells c.read_each-outcome.new.values c.read_each-outcome.result (keeps.cells tells) (c.read_each-outcome.ensures.value (keeps.tells tells))

pub returns-in-Err-clause-does : goal.returns-in-Err-clause-does
returns-in-Err-clause-does g c = does_err _ _ _ _ (read_notes c.args.base (length c.args.values.now)) (StoreFault None) (first_none (read_notes c.args.base (length c.args.values.now)) _ _ _ c.in-Err.ensures.seen)

pub returns-in-Err-clause-passes : goal.returns-in-Err-clause-passes
returns-in-Err-clause-passes g c =
    let old = g.S.Store.disk c.args.store.now in
    let lane = c.lane.ensures in
    same_still old old (g.S.Store.disk c.lane.new.self) (same_none old) lane.goes lane.time lane.crash lane.keeps

pub returns-clause-passes : goal.returns-clause-passes
returns-clause-passes g c =
    let old = g.S.Store.disk c.args.store.now in
    let mid = g.S.Store.disk c.lane.new.self in
    let lane = c.lane.ensures in
    let back = c.absorb.ensures in
    same_still old mid (g.S.Store.disk c.absorb.new.self) (same_still old old mid (same_none old) lane.goes lane.time lane.crash lane.keeps) back.goes back.time back.crash back.keeps
