use Rattle.ob_cells.proofs.Stopping.{fault_any}
use Rattle.ob_flat.proofs.reading.read_row.Goals as goal

pub returns-in-Err-clause-faults : goal.returns-in-Err-clause-faults
returns-in-Err-clause-faults g c = fault_any c.args.cell 1 c.in-Err.fault c.in-Err.ensures.faults
