use Rattle.ob_blind.proofs.DrawLaws.{draws_are_blind}
use Rattle.ob_blind.proofs.draws.draws_are_blind.Goals as goal

pub returns : goal.returns
returns c = draws_are_blind
