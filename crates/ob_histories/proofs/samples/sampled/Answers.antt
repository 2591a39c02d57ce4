use Rattle.ob_histories.proofs.Sampling as laws
use Rattle.ob_histories.proofs.samples.sampled.Goals as goal

pub returns : goal.returns
returns c = laws.sampled
