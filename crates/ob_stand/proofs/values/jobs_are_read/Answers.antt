use Rattle.ob_stand.proofs.Running as laws
use Rattle.ob_stand.proofs.values.jobs_are_read.Goals as goal

pub returns : goal.returns
returns c = laws.jobs_are_read
