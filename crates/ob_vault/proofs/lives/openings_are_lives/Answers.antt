use Rattle.ob_vault.proofs.OpenedRun.{opened_runs}
use Rattle.ob_vault.proofs.lives.openings_are_lives.Goals as goal

pub returns : goal.returns
returns g c = λ keys p word_of s cells here store o small tells opened. opened_runs keys p word_of s cells here (g.S.Store.disk store) o small tells opened
