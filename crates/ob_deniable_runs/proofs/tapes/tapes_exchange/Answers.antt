use Rattle.ob_deniable_runs.proofs.Denied as denied
use Rattle.ob_deniable_runs.proofs.tapes.tapes_exchange.Goals as goal

pub returns : goal.returns
returns c = λ p tape slots one other some done sh puts. denied.tapes_exchange p tape slots one other some done sh puts
