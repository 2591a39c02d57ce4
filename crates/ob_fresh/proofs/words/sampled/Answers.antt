use Rattle.ob_fresh.proofs.Sampling.{sampled}
use Rattle.ob_fresh.proofs.words.sampled.Goals as goal

pub returns : goal.returns
returns c = sampled
