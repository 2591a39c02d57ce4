use Rattle.ob_schedule.proofs.Determined.{determined}
use Rattle.ob_schedule.proofs.laws.line_determines.Goals as goal

pub returns : goal.returns
returns c = determined
