use Rattle.std.proofs.Common.{Err, length, arith, sym, subst}
use Rattle.ob_base.specs.declared.fault.Fault.{Fault}
use Rattle.ob_base.proofs.Bounds.{cells_le}
use Rattle.ob_store.specs.Told.{Does}
use Rattle.ob_cells.specs.Orders.{reads_end}
use Rattle.ob_log.specs.Reads.{AreRecordsRead, area_notes}
use Rattle.ob_log.proofs.AreaReads.{area_read, area_cut}
use Rattle.ob_log.proofs.Fitting.{accepted_fit, image_of, image_holds}
use Rattle.ob_log.proofs.Opens.{area_few}
use Rattle.ob_store.specs.Calls.{IsFailed, IsStoreFault}
use Rattle.ob_store.proofs.Serving.{serves_err, serves_ok}
use Rattle.ob_log.proofs.reading.read_area.Goals as goal

pub read_cells-requires : goal.read_cells-requires
read_cells-requires g c = record {
  fits = omega (arith, c.requires.area, area_few c.args.p.now, cells_le c.args.p.now, c.log_cell-base.ensures.within);
}

pub open_records-requires-clause-fits : goal.open_records-requires-clause-fits
open_records-requires-clause-fits g c = omega (arith, cells_le c.args.p.now, c.log_cell-base.ensures.within)

pub returns-in-Ok-open_records-clause-value : goal.returns-in-Ok-open_records-clause-value
returns-in-Ok-open_records-clause-value g c = λ tells. c.in-Ok-open_records.ensures (g.S.Store.disk c.args.store.now).cells (c.in-Ok.ensures.bytes tells)

pub returns-in-Err-open_records-clause-value : goal.returns-in-Err-open_records-clause-value
returns-in-Err-open_records-clause-value g c = λ tells.
    subst (λ f. AreRecordsRead c.args.sealer.now.keys c.args.p.now c.args.epoch (g.S.Store.disk c.args.store.now).cells (Err f)) (sym c.from.ensures)
    (c.in-Err-open_records.ensures (g.S.Store.disk c.args.store.now).cells (c.in-Ok.ensures.bytes tells))

pub returns-in-Ok-open_records-clause-fit : goal.returns-in-Ok-open_records-clause-fit
returns-in-Ok-open_records-clause-fit g c =
    let base = c.log_cell-base.result in
    accepted_fit c.args.sealer.now.keys c.args.p.now c.args.epoch _ (image_of base c.read_cells.new.cells) (c.in-Ok-open_records.ensures (image_of base c.read_cells.new.cells) (image_holds base c.read_cells.new.cells))

-- ---- what each of them says of the store

pub returns-in-Err-clause-serves : goal.returns-in-Err-clause-serves
returns-in-Err-clause-serves g c = serves_err IsFailed IsStoreFault _ _ _ _ (λ told. tt) c.in-Err.ensures.serves

pub returns-in-Ok-open_records-clause-serves : goal.returns-in-Ok-open_records-clause-serves
returns-in-Ok-open_records-clause-serves g c =
    let read = c.read_cells.ensures.serves in
    serves_ok IsStoreFault _ _ _ read.goes read.out c.in-Ok.ensures.serves.tells

pub returns-in-Err-open_records-clause-serves : goal.returns-in-Err-open_records-clause-serves
returns-in-Err-open_records-clause-serves g c =
    let read = c.read_cells.ensures.serves in
    record { goes = read.goes; out = read.out; tells = tt; cause = λ blamed. absurd (subst IsStoreFault c.from.ensures blamed) }

-- ---- what is told of the reads

pub returns-in-Err-clause-does : goal.returns-in-Err-clause-does
returns-in-Err-clause-does g c = area_cut c.args.p.now c.args.epoch c.log_cell-base.result (length c.args.cells.now) c.log_cell-base.ensures.cell c.requires.area _ _ _ _ c.in-Err.ensures.does.first

pub returns-in-Ok-open_records-clause-does : goal.returns-in-Ok-open_records-clause-does
returns-in-Ok-open_records-clause-does g c = area_read c.args.p.now c.args.epoch c.log_cell-base.result (length c.args.cells.now) c.log_cell-base.ensures.cell c.requires.area _ _ _ _ c.in-Ok.ensures.does.all

pub returns-in-Err-open_records-clause-does : goal.returns-in-Err-open_records-clause-does
returns-in-Err-open_records-clause-does g c =
    let notes = area_notes c.args.p.now c.args.epoch in
    let old = (g.S.Store.disk c.args.store.now).seen in
    let new = (g.S.Store.disk c.read_cells.new.store).seen in
    subst (λ (f : Fault). Does {T = Unit {0}} {E = Fault} notes old new (g.W.Watch.trace c.args.watch.now) (g.W.Watch.trace c.read_cells.new.watch) (reads_end f)) (sym c.from.ensures)
    (area_read c.args.p.now c.args.epoch c.log_cell-base.result (length c.args.cells.now) c.log_cell-base.ensures.cell c.requires.area _ _ _ _ c.in-Ok.ensures.does.all)
