use Rattle.ob_stand.proofs.ValueSampling as laws
use Rattle.ob_stand.proofs.values.values_sampled.Goals as goal

pub returns : goal.returns
returns c = laws.sampled
