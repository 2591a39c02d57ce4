use Rattle.ob_deniable_runs.proofs.Sampling as sampling
use Rattle.ob_deniable_runs.proofs.tapes.sampled.Goals as goal

pub returns : goal.returns
returns c = sampling.sampled
