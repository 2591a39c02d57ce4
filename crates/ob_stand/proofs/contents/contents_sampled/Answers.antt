use Rattle.ob_stand.proofs.ContentSampling as laws
use Rattle.ob_stand.proofs.contents.contents_sampled.Goals as goal

pub returns : goal.returns
returns c = laws.sampled
