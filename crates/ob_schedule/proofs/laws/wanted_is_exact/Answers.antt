use Rattle.ob_schedule.proofs.Exact.{exact}
use Rattle.ob_schedule.proofs.laws.wanted_is_exact.Goals as goal

pub returns : goal.returns
returns c = exact
