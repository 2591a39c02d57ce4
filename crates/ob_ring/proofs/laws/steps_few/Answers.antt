use Rattle.ob_ring.proofs.StepLaws.{steps_few}
use Rattle.ob_ring.proofs.laws.steps_few.Goals as goal

pub returns : goal.returns
returns c = steps_few
