use Rattle.ob_vault.proofs.Whole.{whole_run}
use Rattle.ob_vault.proofs.runs.runs_are_lives.Goals as goal

pub returns : goal.returns
returns g c = λ keys most p image f opened new calls steps behind refused words seen begins goes_on word_of s here small tape.
    whole_run keys most p image f (g.S.Store.disk opened) (g.S.Store.disk new) calls steps behind refused words seen begins goes_on word_of s here small tape
