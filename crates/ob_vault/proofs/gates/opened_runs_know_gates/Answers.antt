use Rattle.ob_vault.proofs.Registers.{opened_known}
use Rattle.ob_vault.proofs.gates.opened_runs_know_gates.Goals as goal

pub returns : goal.returns
returns g c = λ keys p s store o is. opened_known (λ x. g.S.Store.disk x) keys p s store o is
