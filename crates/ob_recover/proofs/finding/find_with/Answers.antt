use Rattle.std.proofs.Common.{◌≡◌, suc, ◌+◌, Err, Ok, ◌++◌, sym, subst, ◌∙◌}
use mathlib.Core.Path.{fun_ext}
use Rattle.ob_base.specs.Layout.{checkpoint_cells}
use Rattle.ob_store.specs.Calls.{IsStoreFault}
use Rattle.ob_store.specs.Disk.{Image}
use Rattle.ob_store.specs.Told.{Tells, TellsFirst}
use Rattle.ob_store.proofs.Doing.{tells_then, first_more, first_behind}
use Rattle.ob_store.proofs.Serving.{serves_err, serves_ok, serves_then}
use Rattle.ob_cells.specs.Orders.{read_notes}
use Rattle.ob_start.specs.Orders.{registers_notes}
use Rattle.ob_log.specs.Logs.{OpenRecords}
use Rattle.ob_log.specs.Reads.{AreRecordsRead, area_notes}
use Rattle.ob_check.specs.ReadBack.{IsCheckRead}
use Rattle.ob_check.specs.Written.{area_of}
use Rattle.ob_recover.proofs.FindLaws.{at_next, at_sum, keeps_both, reads_both, number_found, registers_find, registers_fault, registers_stand, registers_does, check_find, check_fault, check_read, check_stands, check_front, log_find, log_fault, log_stands, log_front, part_does, check_part, log_part}
use Rattle.ob_recover.proofs.finding.find_with.Goals as goal

-- ---- refused at the registers

pub returns-in-Err-clause-value : goal.returns-in-Err-clause-value
returns-in-Err-clause-value g c = λ tells. registers_find c.args.sealer.now.keys c.args.p.now (g.S.Store.disk c.args.store.now).cells c.in-Err.fault c.in-Err.ensures.faults (c.in-Err.ensures.value tells)

pub returns-in-Err-clause-faults : goal.returns-in-Err-clause-faults
returns-in-Err-clause-faults g c = registers_fault c.in-Err.fault c.in-Err.ensures.faults

pub returns-in-Err-clause-stands : goal.returns-in-Err-clause-stands
returns-in-Err-clause-stands g c = λ s tells stands. registers_stand c.args.sealer.now.keys c.args.p.now s (g.S.Store.disk c.args.store.now).cells c.in-Err.fault c.in-Err.ensures.faults (c.in-Err.ensures.value tells) stands

pub returns-in-Err-clause-does : goal.returns-in-Err-clause-does
returns-in-Err-clause-does g c = registers_does c.args.sealer.now.keys c.args.p.now (g.S.Store.disk c.args.store.now) (g.S.Store.disk c.read_registers.new.store) (g.W.Watch.trace c.args.watch.now) (g.W.Watch.trace c.read_registers.new.watch) c.in-Err.fault
    c.in-Err.ensures.faults c.in-Err.ensures.does

pub returns-in-Err-clause-serves : goal.returns-in-Err-clause-serves
returns-in-Err-clause-serves g c = serves_err IsStoreFault IsStoreFault _ _ c.in-Err.fault c.in-Err.fault (λ f. f) c.in-Err.ensures.serves

-- ---- refused at the checkpoint

pub returns-in-Err-read-clause-value : goal.returns-in-Err-read-clause-value
returns-in-Err-read-clause-value g c = λ tells.
    let old = g.S.Store.disk c.args.store.now in
    let one = g.S.Store.disk c.read_registers.new.store in
    let keeps = c.read_registers.ensures.keeps in
    let keys = c.args.sealer.now.keys in
    let numbers = c.in-Ok.numbers in
    let e = c.in-Err-read.ensures in
    let same : one.cells ≡ old.cells = fun_ext (λ k. keeps.cells tells k) in
    check_find keys c.args.p.now old.cells numbers.generation numbers.epoch c.in-Err-read.fault (c.in-Ok.ensures.value tells) e.faults
    (subst (λ (image : Image). IsCheckRead keys c.args.p.now numbers.epoch image (Err c.in-Err-read.fault)) same (e.value (keeps.tells tells)))

pub returns-in-Err-read-clause-faults : goal.returns-in-Err-read-clause-faults
returns-in-Err-read-clause-faults g c = check_fault c.args.p.now c.in-Ok.numbers.epoch c.in-Err-read.fault c.in-Err-read.ensures.faults

pub returns-in-Err-read-clause-stands : goal.returns-in-Err-read-clause-stands
returns-in-Err-read-clause-stands g c = λ s tells stands.
    let old = g.S.Store.disk c.args.store.now in
    let one = g.S.Store.disk c.read_registers.new.store in
    let keeps = c.read_registers.ensures.keeps in
    let keys = c.args.sealer.now.keys in
    let numbers = c.in-Ok.numbers in
    let found = c.in-Ok.ensures.value tells in
    let e = c.in-Err-read.ensures in
    let same : one.cells ≡ old.cells = fun_ext (λ k. keeps.cells tells k) in
    check_stands keys c.args.p.now s old.cells numbers.epoch c.in-Err-read.fault e.faults
    (subst (λ (image : Image). IsCheckRead keys c.args.p.now numbers.epoch image (Err c.in-Err-read.fault)) same (e.value (keeps.tells tells)))
    (number_found keys 5 old.cells s.epoch numbers.epoch stands.epoch found.epoch_whole found.epoch_counts) stands

pub returns-in-Err-read-clause-keeps : goal.returns-in-Err-read-clause-keeps
returns-in-Err-read-clause-keeps g c = keeps_both (g.S.Store.disk c.args.store.now) (g.S.Store.disk c.read_registers.new.store) (g.S.Store.disk c.read.new.store) c.read_registers.ensures.keeps c.read.ensures.keeps

pub returns-in-Err-read-clause-passes : goal.returns-in-Err-read-clause-passes
returns-in-Err-read-clause-passes g c = reads_both (g.S.Store.disk c.args.store.now) (g.S.Store.disk c.read_registers.new.store) (g.S.Store.disk c.read.new.store) c.read_registers.ensures.passes c.read.ensures.passes

pub returns-in-Err-read-clause-does : goal.returns-in-Err-read-clause-does
returns-in-Err-read-clause-does g c =
    let p = c.args.p.now in
    let old = g.S.Store.disk c.args.store.now in
    let one = g.S.Store.disk c.read_registers.new.store in
    let mid = g.S.Store.disk c.read.new.store in
    let shown = g.W.Watch.trace c.args.watch.now in
    let shown_one = g.W.Watch.trace c.read_registers.new.watch in
    let shown_mid = g.W.Watch.trace c.read.new.watch in
    let numbers = c.in-Ok.numbers in
    let cells = read_notes (area_of p numbers.epoch) (checkpoint_cells p) in
    part_does c.args.sealer.now.keys p old mid shown shown_mid c.in-Err-read.fault (check_part p numbers.epoch c.in-Err-read.fault c.in-Err-read.ensures.faults)
    (record {
      generation = numbers.generation;
      epoch = numbers.epoch;
      registers = c.in-Ok.ensures.value;
      told = first_behind _ _ _ _ _ _ registers_notes (cells ++ area_notes p (suc numbers.epoch)) c.in-Ok.ensures.does
          (first_more _ _ _ _ cells (area_notes p (suc numbers.epoch)) (check_front p numbers.epoch one.seen mid.seen shown_one shown_mid c.in-Err-read.fault c.in-Err-read.ensures.faults c.in-Err-read.ensures.does));
    })

pub returns-in-Err-read-clause-serves : goal.returns-in-Err-read-clause-serves
returns-in-Err-read-clause-serves g c =
    let first = c.read_registers.ensures.serves in
    let fault = c.in-Err-read.fault in
    serves_then IsStoreFault _ (g.S.Store.disk c.read_registers.new.store) _ (Err fault) first.goes first.out c.in-Ok.ensures.serves.tells (serves_err IsStoreFault IsStoreFault _ _ fault fault (λ f. f) c.in-Err-read.ensures.serves)

-- ---- refused at the log

pub returns-in-Err-read_open-clause-value : goal.returns-in-Err-read_open-clause-value
returns-in-Err-read_open-clause-value g c = λ tells.
    let old = g.S.Store.disk c.args.store.now in
    let one = g.S.Store.disk c.read_registers.new.store in
    let mid = g.S.Store.disk c.read.new.store in
    let first = c.read_registers.ensures.keeps in
    let second = c.read.ensures.keeps in
    let told = first.tells tells in
    let keys = c.args.sealer.now.keys in
    let p = c.args.p.now in
    let numbers = c.in-Ok.numbers in
    let e = c.in-Err-read_open.ensures in
    let same : one.cells ≡ old.cells = fun_ext (λ k. first.cells tells k) in
    let same_mid : mid.cells ≡ old.cells = fun_ext (λ k. second.cells told k ∙ first.cells tells k) in
    log_find keys p old.cells numbers.generation numbers.epoch c.in-Ok-read.tables c.in-Err-read_open.fault (c.in-Ok.ensures.value tells)
    (subst (λ (image : Image). IsCheckRead keys p numbers.epoch image (Ok c.in-Ok-read.tables)) same (c.in-Ok-read.ensures.value told))
    e.faults
    (at_next (λ n. AreRecordsRead keys p n old.cells (Err c.in-Err-read_open.fault)) numbers.epoch (subst (λ (image : Image). AreRecordsRead keys p (numbers.epoch + 1) image (Err c.in-Err-read_open.fault)) same_mid (e.value (second.tells told))))

pub returns-in-Err-read_open-clause-faults : goal.returns-in-Err-read_open-clause-faults
returns-in-Err-read_open-clause-faults g c = log_fault c.in-Err-read_open.fault c.in-Err-read_open.ensures.faults

pub returns-in-Err-read_open-clause-stands : goal.returns-in-Err-read_open-clause-stands
returns-in-Err-read_open-clause-stands g c = λ s tells stands.
    let old = g.S.Store.disk c.args.store.now in
    let mid = g.S.Store.disk c.read.new.store in
    let first = c.read_registers.ensures.keeps in
    let second = c.read.ensures.keeps in
    let told = first.tells tells in
    let keys = c.args.sealer.now.keys in
    let p = c.args.p.now in
    let numbers = c.in-Ok.numbers in
    let found = c.in-Ok.ensures.value tells in
    let epoch = number_found keys 5 old.cells s.epoch numbers.epoch stands.epoch found.epoch_whole found.epoch_counts in
    let same_mid : mid.cells ≡ old.cells = fun_ext (λ k. second.cells told k ∙ first.cells tells k) in
    let log = at_sum (λ n. OpenRecords keys p n s.records mid.cells) numbers.epoch (subst (λ (image : Image). OpenRecords keys p (suc numbers.epoch) s.records image) (sym same_mid) (subst (λ n. OpenRecords keys p (suc n) s.records old.cells) (sym epoch) stands.holds.log)) in
    log_stands s c.in-Err-read_open.fault c.in-Err-read_open.ensures.faults (c.in-Err-read_open.ensures.as_written s.records (second.tells told) log)

pub returns-in-Err-read_open-clause-keeps : goal.returns-in-Err-read_open-clause-keeps
returns-in-Err-read_open-clause-keeps g c =
    let old = g.S.Store.disk c.args.store.now in
    let one = g.S.Store.disk c.read_registers.new.store in
    let mid = g.S.Store.disk c.read.new.store in
    let new = g.S.Store.disk c.read_open.new.store in
    keeps_both old one new c.read_registers.ensures.keeps (keeps_both one mid new c.read.ensures.keeps c.read_open.ensures.keeps)

pub returns-in-Err-read_open-clause-passes : goal.returns-in-Err-read_open-clause-passes
returns-in-Err-read_open-clause-passes g c =
    let old = g.S.Store.disk c.args.store.now in
    let one = g.S.Store.disk c.read_registers.new.store in
    let mid = g.S.Store.disk c.read.new.store in
    let new = g.S.Store.disk c.read_open.new.store in
    reads_both old one new c.read_registers.ensures.passes (reads_both one mid new c.read.ensures.passes c.read_open.ensures.passes)

pub returns-in-Err-read_open-clause-does : goal.returns-in-Err-read_open-clause-does
returns-in-Err-read_open-clause-does g c =
    let p = c.args.p.now in
    let old = g.S.Store.disk c.args.store.now in
    let mid = g.S.Store.disk c.read.new.store in
    let new = g.S.Store.disk c.read_open.new.store in
    let shown = g.W.Watch.trace c.args.watch.now in
    let shown_mid = g.W.Watch.trace c.read.new.watch in
    let shown_new = g.W.Watch.trace c.read_open.new.watch in
    let numbers = c.in-Ok.numbers in
    let cells = read_notes (area_of p numbers.epoch) (checkpoint_cells p) in
    let area = area_notes p (suc numbers.epoch) in
    let fault = c.in-Err-read_open.fault in
    let faults = c.in-Err-read_open.ensures.faults in
    part_does c.args.sealer.now.keys p old new shown shown_new fault (log_part fault faults)
    (record {
      generation = numbers.generation;
      epoch = numbers.epoch;
      registers = c.in-Ok.ensures.value;
      told = first_behind _ _ _ _ _ _ registers_notes (cells ++ area) c.in-Ok.ensures.does
          (first_behind _ _ _ _ _ _ cells area c.in-Ok-read.ensures.does.all (at_next (λ n. TellsFirst (area_notes p n) mid.seen new.seen shown_mid shown_new) numbers.epoch
          (log_front (area_notes p (numbers.epoch + 1)) mid.seen new.seen shown_mid shown_new fault faults c.in-Err-read_open.ensures.does)));
    })

pub returns-in-Err-read_open-clause-serves : goal.returns-in-Err-read_open-clause-serves
returns-in-Err-read_open-clause-serves g c =
    let first = c.read_registers.ensures.serves in
    let second = c.read.ensures.serves in
    let fault = c.in-Err-read_open.fault in
    serves_then IsStoreFault _ (g.S.Store.disk c.read_registers.new.store) _ (Err fault) first.goes first.out c.in-Ok.ensures.serves.tells
    (serves_then IsStoreFault _ (g.S.Store.disk c.read.new.store) _ (Err fault) second.goes second.out c.in-Ok-read.ensures.serves.tells (serves_err IsStoreFault IsStoreFault _ _ fault fault (λ f. f) c.in-Err-read_open.ensures.serves))

-- ---- found

pub returns-clause-serves : goal.returns-clause-serves
returns-clause-serves g c =
    let first = c.read_registers.ensures.serves in
    let second = c.read.ensures.serves in
    let third = c.read_open.ensures.serves in
    serves_then IsStoreFault _ (g.S.Store.disk c.read_registers.new.store) _ (Ok _) first.goes first.out c.in-Ok.ensures.serves.tells
    (serves_then IsStoreFault _ (g.S.Store.disk c.read.new.store) _ (Ok _) second.goes second.out c.in-Ok-read.ensures.serves.tells (serves_ok IsStoreFault _ _ _ third.goes third.out c.in-Ok-read_open.ensures.serves.tells))

pub returns-clause-obeys : goal.returns-clause-obeys
returns-clause-obeys g c = record { content = c.in-Ok-read.ensures.obeys.0; idle = c.in-Ok-read.ensures.obeys.1; records = c.in-Ok-read_open.ensures.fit }

pub returns-clause-value : goal.returns-clause-value
returns-clause-value g c = λ tells.
    let old = g.S.Store.disk c.args.store.now in
    let one = g.S.Store.disk c.read_registers.new.store in
    let mid = g.S.Store.disk c.read.new.store in
    let first = c.read_registers.ensures.keeps in
    let second = c.read.ensures.keeps in
    let told = first.tells tells in
    let keys = c.args.sealer.now.keys in
    let p = c.args.p.now in
    let numbers = c.in-Ok.numbers in
    let same : one.cells ≡ old.cells = fun_ext (λ k. first.cells tells k) in
    let same_mid : mid.cells ≡ old.cells = fun_ext (λ k. second.cells told k ∙ first.cells tells k) in
    record {
      registers = c.in-Ok.ensures.value tells;
      generation_gates = c.in-Ok.ensures.generation tells;
      epoch_gates = c.in-Ok.ensures.epoch tells;
      tables = subst (λ (image : Image). IsCheckRead keys p numbers.epoch image (Ok c.in-Ok-read.tables)) same (c.in-Ok-read.ensures.value told);
      records = at_next (λ n. AreRecordsRead keys p n old.cells (Ok c.in-Ok-read_open.records)) numbers.epoch (subst (λ (image : Image). AreRecordsRead keys p (numbers.epoch + 1) image (Ok c.in-Ok-read_open.records)) same_mid (c.in-Ok-read_open.ensures.value (second.tells told)));
    }

pub returns-clause-stands : goal.returns-clause-stands
returns-clause-stands g c = λ s tells stands.
    let old = g.S.Store.disk c.args.store.now in
    let one = g.S.Store.disk c.read_registers.new.store in
    let mid = g.S.Store.disk c.read.new.store in
    let first = c.read_registers.ensures.keeps in
    let second = c.read.ensures.keeps in
    let told = first.tells tells in
    let keys = c.args.sealer.now.keys in
    let p = c.args.p.now in
    let numbers = c.in-Ok.numbers in
    let found = c.in-Ok.ensures.value tells in
    let epoch = number_found keys 5 old.cells s.epoch numbers.epoch stands.epoch found.epoch_whole found.epoch_counts in
    let same : one.cells ≡ old.cells = fun_ext (λ k. first.cells tells k) in
    let same_mid : mid.cells ≡ old.cells = fun_ext (λ k. second.cells told k ∙ first.cells tells k) in
    let log = at_sum (λ n. OpenRecords keys p n s.records mid.cells) numbers.epoch (subst (λ (image : Image). OpenRecords keys p (suc numbers.epoch) s.records image) (sym same_mid) (subst (λ n. OpenRecords keys p (suc n) s.records old.cells) (sym epoch) stands.holds.log)) in
    let read = subst (λ (image : Image). IsCheckRead keys p numbers.epoch image (Ok c.in-Ok-read.tables)) same (c.in-Ok-read.ensures.value told) in
    record {
      generation = number_found keys 1 old.cells s.generation numbers.generation stands.generation found.generation_whole found.generation_counts;
      epoch = epoch;
      content = check_read keys p s old.cells (Ok c.in-Ok-read.tables) stands (subst (λ n. IsCheckRead keys p n old.cells (Ok c.in-Ok-read.tables)) epoch read);
      records = c.in-Ok-read_open.ensures.as_written s.records (second.tells told) log;
    }

pub returns-clause-keeps : goal.returns-clause-keeps
returns-clause-keeps g c =
    let old = g.S.Store.disk c.args.store.now in
    let one = g.S.Store.disk c.read_registers.new.store in
    let mid = g.S.Store.disk c.read.new.store in
    let new = g.S.Store.disk c.read_open.new.store in
    keeps_both old one new c.read_registers.ensures.keeps (keeps_both one mid new c.read.ensures.keeps c.read_open.ensures.keeps)

pub returns-clause-passes : goal.returns-clause-passes
returns-clause-passes g c =
    let old = g.S.Store.disk c.args.store.now in
    let one = g.S.Store.disk c.read_registers.new.store in
    let mid = g.S.Store.disk c.read.new.store in
    let new = g.S.Store.disk c.read_open.new.store in
    reads_both old one new c.read_registers.ensures.passes (reads_both one mid new c.read.ensures.passes c.read_open.ensures.passes)

pub returns-clause-does : goal.returns-clause-does
returns-clause-does g c =
    let p = c.args.p.now in
    let numbers = c.in-Ok.numbers in
    let cells = read_notes (area_of p numbers.epoch) (checkpoint_cells p) in
    let area = area_notes p (suc numbers.epoch) in
    tells_then registers_notes registers_notes (cells ++ area) (cells ++ area) _ _ _ _ _ _ c.in-Ok.ensures.does
    (tells_then cells cells area area _ _ _ _ _ _ c.in-Ok-read.ensures.does.all
    (at_next (λ n. Tells (area_notes p n) (area_notes p n) (g.S.Store.disk c.read.new.store).seen (g.S.Store.disk c.read_open.new.store).seen (g.W.Watch.trace c.read.new.watch) (g.W.Watch.trace c.read_open.new.watch)) numbers.epoch c.in-Ok-read_open.ensures.does.all))
