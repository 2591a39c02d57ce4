use Rattle.ob_hall.proofs.Agreeing.{agrees}
use Rattle.ob_hall.proofs.laws.desk_agrees.Goals as goal

pub returns : goal.returns
returns c = agrees
