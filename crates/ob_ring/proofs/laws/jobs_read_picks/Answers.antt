use Rattle.ob_ring.proofs.JobLaws as laws
use Rattle.ob_ring.proofs.laws.jobs_read_picks.Goals as goal

pub returns : goal.returns
returns c = laws.jobs_read_picks
