use Rattle.ob_deniable.proofs.Sampling.{sampled}
use Rattle.ob_deniable.proofs.works.sampled.Goals as goal

pub returns : goal.returns
returns c = sampled
