use Rattle.ob_blind.proofs.Sampling.{sampled}
use Rattle.ob_blind.proofs.samples.sampled.Goals as goal

pub returns : goal.returns
returns c = sampled
