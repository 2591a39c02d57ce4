use Rattle.ob_outcomes.proofs.Below.{lone_reads_below}
use Rattle.ob_outcomes.proofs.lone.lone_reads_below.Goals as goal

pub returns : goal.returns
returns c = lone_reads_below
