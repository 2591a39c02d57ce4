use Rattle.ob_vault.proofs.Stopping.{stops_in_life}
use Rattle.ob_vault.proofs.runs.openings_stop.Goals as goal

pub returns : goal.returns
returns g c = λ keys most p old mid new before after answered head acts tells word_of s pending here each.
    stops_in_life keys most p (g.S.Store.disk old) (g.S.Store.disk mid) (g.S.Store.disk new) before after answered head word_of s pending (λ at. acts word_of s pending (head.keeps.tells tells) at) tells here each
