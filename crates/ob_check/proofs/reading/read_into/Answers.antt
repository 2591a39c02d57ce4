use Rattle.std.proofs.Common.{◌/◌, inr, arith, sym, subst, ◌∙◌, length, take, ℕ, Err}
use Rattle.std.proofs.lemmas.List.{length-take-le}
use Rattle.ob_base.specs.declared.fault.Fault.{Fault}
use Rattle.ob_base.specs.Layout.{checkpoint_cells}
use Rattle.ob_store.specs.Told.{Does}
use Rattle.ob_store.proofs.Doing.{does_all}
use Rattle.ob_cells.specs.Orders.{read_notes, reads_till, reads_end}
use Rattle.ob_check.specs.ReadBack.{IsRefused, IsCheckRead, IsCheckReadFault}
use Rattle.ob_check.specs.Written.{area_of}
use Rattle.ob_check.proofs.PlaceLaws.{some_cell}
use Rattle.ob_check.proofs.ReadLaws.{many_of, front_long, opened_to, told_all, damage_of_run, fault_of_run, does_run, refused_fault, refused_does}
use Rattle.ob_store.specs.Calls.{IsStoreFault}
use Rattle.ob_store.proofs.Serving.{serves_err, serves_ok}
use Rattle.ob_check.proofs.reading.read_into.Goals as goal

pub read-requires-clause-some : goal.read-requires-clause-some
read-requires-clause-some g c = omega (arith, c.requires.sheet, some_cell c.args.p.now)

pub slice_bounds-bytes-end : goal.slice_bounds-bytes-end
slice_bounds-bytes-end g c =
    sym (length-take-le c.checkpoint_len.result c.bytes.result.now (front_long c.args.p.now c.args.sheet.now c.bytes.result.now c.read.new.self c.checkpoint_len.result c.requires.sheet c.read.ensures.long c.bytes.ensures c.checkpoint_len.ensures.len))

pub accept-requires-clause-base : goal.accept-requires-clause-base
accept-requires-clause-base g c = omega (arith, c.area_of-base.ensures.low)

pub accept-requires-clause-long : goal.accept-requires-clause-long
accept-requires-clause-long g c =
    length-take-le c.checkpoint_len.result c.bytes.result.now (front_long c.args.p.now c.args.sheet.now c.bytes.result.now c.read.new.self c.checkpoint_len.result c.requires.sheet c.read.ensures.long c.bytes.ensures c.checkpoint_len.ensures.len)
    ∙ c.checkpoint_len.ensures.len

pub returns-in-Ok-accept-clause-value : goal.returns-in-Ok-accept-clause-value
returns-in-Ok-accept-clause-value g c = λ tells.
    let long = front_long c.args.p.now c.args.sheet.now c.bytes.result.now c.read.new.self c.checkpoint_len.result c.requires.sheet c.read.ensures.long c.bytes.ensures c.checkpoint_len.ensures.len in
    record {
      bytes = take c.checkpoint_len.result c.bytes.result.now;
      opened = opened_to c.args.sealer.now.keys c.args.p.now c.args.epoch (g.S.Store.disk c.args.store.now).cells c.area_of-base.result (length c.args.sheet.now / 96) c.checkpoint_len.result c.in-Ok.field-0 c.read.new.self c.bytes.result.now
          c.area_of-base.ensures.cell (many_of c.args.p.now (length c.args.sheet.now) c.requires.sheet) c.checkpoint_len.ensures.len long c.bytes.ensures (c.in-Ok.ensures.run.value tells);
      accepted = c.in-Ok-accept.ensures.0;
    }

pub returns-in-Err-accept-clause-value : goal.returns-in-Err-accept-clause-value
returns-in-Err-accept-clause-value g c = λ tells.
    let long = front_long c.args.p.now c.args.sheet.now c.bytes.result.now c.read.new.self c.checkpoint_len.result c.requires.sheet c.read.ensures.long c.bytes.ensures c.checkpoint_len.ensures.len in
    subst (λ (f : Fault). IsCheckRead c.args.sealer.now.keys c.args.p.now c.args.epoch (g.S.Store.disk c.args.store.now).cells (Err f)) (sym c.from.ensures)
    (inr (record {
      bytes = take c.checkpoint_len.result c.bytes.result.now;
      opened = opened_to c.args.sealer.now.keys c.args.p.now c.args.epoch (g.S.Store.disk c.args.store.now).cells c.area_of-base.result (length c.args.sheet.now / 96) c.checkpoint_len.result c.in-Ok.field-0 c.read.new.self c.bytes.result.now
          c.area_of-base.ensures.cell (many_of c.args.p.now (length c.args.sheet.now) c.requires.sheet) c.checkpoint_len.ensures.len long c.bytes.ensures (c.in-Ok.ensures.run.value tells);
      refused = subst (λ (b : ℕ). IsRefused c.args.p.now b c.args.epoch (take c.checkpoint_len.result c.bytes.result.now) c.in-Err-accept.damaged) c.area_of-base.ensures.cell c.in-Err-accept.ensures;
    }))

pub returns-in-Err-accept-clause-faults : goal.returns-in-Err-accept-clause-faults
returns-in-Err-accept-clause-faults g c =
    subst (IsCheckReadFault c.args.p.now c.args.epoch) (sym c.from.ensures)
    (refused_fault c.args.p.now c.area_of-base.result c.args.epoch c.args.epoch (take c.checkpoint_len.result c.bytes.result.now) c.in-Err-accept.damaged c.in-Err-accept.ensures)

pub returns-in-Err-accept-clause-does : goal.returns-in-Err-accept-clause-does
returns-in-Err-accept-clause-does g c =
    let seen = (g.S.Store.disk c.args.store.now).seen in
    let seen' = (g.S.Store.disk c.read.new.store).seen in
    let trace = g.W.Watch.trace c.args.watch.now in
    let trace' = g.W.Watch.trace c.read.new.watch in
    let from = area_of c.args.p.now c.args.epoch in
    subst (λ (f : Fault). Does (reads_till from (checkpoint_cells c.args.p.now) f) seen seen' trace trace' (reads_end f)) (sym c.from.ensures)
    (refused_does c.args.p.now c.area_of-base.result c.args.epoch from (checkpoint_cells c.args.p.now) (take c.checkpoint_len.result c.bytes.result.now) c.in-Err-accept.damaged seen seen' trace trace' c.in-Err-accept.ensures
    (told_all c.args.p.now c.args.epoch c.area_of-base.result (length c.args.sheet.now / 96) seen seen' trace trace' c.area_of-base.ensures.cell (many_of c.args.p.now (length c.args.sheet.now) c.requires.sheet) (c.in-Ok.ensures.run.does).all))

pub returns-in-Ok-accept-clause-does : goal.returns-in-Ok-accept-clause-does
returns-in-Ok-accept-clause-does g c =
    let seen = (g.S.Store.disk c.args.store.now).seen in
    let seen' = (g.S.Store.disk c.read.new.store).seen in
    let trace = g.W.Watch.trace c.args.watch.now in
    let trace' = g.W.Watch.trace c.read.new.watch in
    does_all seen seen' trace trace' (read_notes (area_of c.args.p.now c.args.epoch) (checkpoint_cells c.args.p.now)) tt
    (told_all c.args.p.now c.args.epoch c.area_of-base.result (length c.args.sheet.now / 96) seen seen' trace trace' c.area_of-base.ensures.cell (many_of c.args.p.now (length c.args.sheet.now) c.requires.sheet) (c.in-Ok.ensures.run.does).all)

pub returns-in-Err-clause-faults : goal.returns-in-Err-clause-faults
returns-in-Err-clause-faults g c =
    fault_of_run c.args.p.now c.args.epoch c.area_of-base.result (length c.args.sheet.now / 96) c.in-Err.fault c.area_of-base.ensures.cell (many_of c.args.p.now (length c.args.sheet.now) c.requires.sheet) c.in-Err.ensures.run.faults

pub returns-in-Err-clause-does : goal.returns-in-Err-clause-does
returns-in-Err-clause-does g c =
    does_run c.args.p.now c.args.epoch c.area_of-base.result (length c.args.sheet.now / 96) _ _ _ _ c.area_of-base.ensures.cell (many_of c.args.p.now (length c.args.sheet.now) c.requires.sheet) c.in-Err.fault c.in-Err.ensures.run.does

-- ---- what each of them says of the store

pub returns-in-Err-clause-serves : goal.returns-in-Err-clause-serves
returns-in-Err-clause-serves g c = serves_err IsStoreFault IsStoreFault _ _ c.in-Err.fault c.in-Err.fault (λ f. f) c.in-Err.ensures.serves

pub returns-in-Ok-accept-clause-serves : goal.returns-in-Ok-accept-clause-serves
returns-in-Ok-accept-clause-serves g c =
    let read = c.read.ensures.serves in
    serves_ok IsStoreFault _ _ _ read.goes read.out c.in-Ok.ensures.serves.tells

pub returns-in-Err-accept-clause-serves : goal.returns-in-Err-accept-clause-serves
returns-in-Err-accept-clause-serves g c =
    let read = c.read.ensures.serves in
    record { goes = read.goes; out = read.out; tells = tt; cause = λ blamed. absurd (subst IsStoreFault c.from.ensures blamed) }

pub returns-in-Err-clause-value : goal.returns-in-Err-clause-value
returns-in-Err-clause-value g c = λ tells.
    damage_of_run c.args.sealer.now.keys c.args.p.now c.args.epoch (g.S.Store.disk c.args.store.now).cells c.read.new.self c.area_of-base.result (length c.args.sheet.now / 96) c.in-Err.fault
    c.area_of-base.ensures.cell (many_of c.args.p.now (length c.args.sheet.now) c.requires.sheet) (c.in-Err.ensures.run.value tells)

pub returns-in-Ok-accept-clause-obeys : goal.returns-in-Ok-accept-clause-obeys
returns-in-Ok-accept-clause-obeys g c = (c.in-Ok-accept.ensures.1, c.in-Ok-accept.ensures.2)
