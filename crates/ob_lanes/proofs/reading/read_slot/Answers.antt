use Rattle.ob_lanes.proofs.SlotReads.{damaged_read, damaged_unblamed}
use Rattle.ob_lanes.proofs.reading.read_slot.Goals as goal

pub returns-in-Ok-clause-read : goal.returns-in-Ok-clause-read
returns-in-Ok-clause-read g c =
    let opened = c.open_cell-outcome.ensures in
    record {
      value = λ tells. opened.value (g.S.Store.disk c.args.store.now).cells (c.in-Ok.ensures.bytes tells);
      faults = damaged_read c.open_cell-outcome.result opened.faults;
      cause = damaged_unblamed _ c.open_cell-outcome.result opened.faults;
    }
