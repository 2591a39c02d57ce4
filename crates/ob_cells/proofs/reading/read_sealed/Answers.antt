use Rattle.std.proofs.Common.{◌/◌, length, None, refl}
use Rattle.ob_base.specs.declared.fault.Fault.TheVariants.{StoreFault}
use Rattle.ob_store.proofs.Doing.{does_err}
use Rattle.ob_cells.specs.Orders.{read_notes}
use Rattle.ob_store.proofs.Lanes.{first_none}
use Rattle.ob_store.proofs.Keeping.{same_none, same_still}
use Rattle.ob_cells.proofs.reading.read_sealed.Goals as goal

pub returns-in-Err-clause-run : goal.returns-in-Err-clause-run
returns-in-Err-clause-run g c =
    let steps = read_notes c.args.base (length c.args.plain.now / 96) in
    record { value = λ tells. tt; faults = refl; does = does_err _ _ _ _ steps (StoreFault None) (first_none steps _ _ _ c.in-Err.ensures.seen) }

pub returns-in-Err-clause-passes : goal.returns-in-Err-clause-passes
returns-in-Err-clause-passes g c =
    let old = g.S.Store.disk c.args.store.now in
    let lane = c.lane.ensures in
    same_still old old (g.S.Store.disk c.lane.new.self) (same_none old) lane.goes lane.time lane.crash lane.keeps

pub returns-clause-passes : goal.returns-clause-passes
returns-clause-passes g c =
    let old = g.S.Store.disk c.args.store.now in
    let mid = g.S.Store.disk c.lane.new.self in
    let lane = c.lane.ensures in
    let back = c.absorb.ensures in
    same_still old mid (g.S.Store.disk c.absorb.new.self) (same_still old old mid (same_none old) lane.goes lane.time lane.crash lane.keeps) back.goes back.time back.crash back.keeps
