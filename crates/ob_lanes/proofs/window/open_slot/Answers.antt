use Rattle.ob_lanes.proofs.SlotReads.{damaged_read, damaged_unblamed}
use Rattle.ob_lanes.proofs.Windows.{ok_at}
use Rattle.ob_lanes.proofs.window.open_slot.Goals as goal

pub returns-in-Ok-clause-opened : goal.returns-in-Ok-clause-opened
returns-in-Ok-clause-opened c =
    let opened = c.open_cell-outcome.ensures in
    record {
      value = λ image told. opened.value image (ok_at _ c.args.cell.now.read c.in-Ok.field-0 c.in-Ok.is told);
      faults = damaged_read c.open_cell-outcome.result opened.faults;
      cause = damaged_unblamed _ c.open_cell-outcome.result opened.faults;
    }
