use Rattle.ob_ring.proofs.Sampling.{sampled}
use Rattle.ob_ring.proofs.laws.sampled.Goals as goal

pub returns : goal.returns
returns c = sampled
