use Rattle.ob_vault.proofs.Showing.{end_shows, fetch_shows}
use Rattle.ob_vault.proofs.lives.calls_show_lives.Goals as goal

pub returns-clause-fetches : goal.returns-clause-fetches
returns-clause-fetches g c = λ word_of s old new notes asks out runs tape called planned. fetch_shows (λ x. g.S.Store.disk x) word_of s old new notes asks runs tape called planned

pub returns-clause-ends : goal.returns-clause-ends
returns-clause-ends g c = λ word_of s old new notes writes runs called planned. end_shows (λ x. g.S.Store.disk x) word_of s old new notes writes runs called planned
