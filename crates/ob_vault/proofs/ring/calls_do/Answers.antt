use Rattle.ob_serial.specs.VaultKinds.{kind_of}
use Rattle.ob_vault.proofs.Calling.{ring_calls_do, words_are_of_tape}
use Rattle.ob_vault.proofs.Tapes.{tapes_stay}
use Rattle.ob_vault.proofs.ring.calls_do.Goals as goal

pub returns-clause-calls : goal.returns-clause-calls
returns-clause-calls g c = ring_calls_do (kind_of g.V.Vault) (λ store. g.S.Store.disk store)

pub returns-clause-words : goal.returns-clause-words
returns-clause-words g c = words_are_of_tape (kind_of g.V.Vault) (λ store. g.S.Store.disk store)

pub returns-clause-tapes : goal.returns-clause-tapes
returns-clause-tapes g c = tapes_stay (kind_of g.V.Vault) (λ store. g.S.Store.disk store)
