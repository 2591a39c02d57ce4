-- What a refused batch of jobs tells.
use Rattle.ob_base.specs.declared.fault.Fault.{Fault}
use Rattle.ob_cells.specs.declared.error.JobsErr.{JobsErr}
use Rattle.ob_cells.specs.declared.error.JobsErr.TheVariants.{NotBegun, Job}

abbrev pub jobs_fault : JobsErr → Fault
jobs_fault (NotBegun fault) = fault
jobs_fault (Job fault) = fault
