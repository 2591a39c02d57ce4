use Rattle.ob_vault.proofs.Joining.{runs_are_one_life}
use Rattle.ob_vault.proofs.runs.runs_are_one_life.Goals as goal

pub returns : goal.returns
returns g c = λ keys p made parts formatted from word_of given. runs_are_one_life (λ x. g.S.Store.disk x) keys p made parts formatted from word_of given
