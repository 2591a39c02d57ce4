use Rattle.ob_recover.proofs.Sampling as laws
use Rattle.ob_recover.proofs.schedule.sampled.Goals as goal

pub returns : goal.returns
returns c = laws.sampled
