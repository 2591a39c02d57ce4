use Rattle.ob_serial.specs.VaultKinds.{kind_of}
use Rattle.ob_vault.proofs.Begun.{ring_begins_sound, ring_calls_begin}
use Rattle.ob_vault.proofs.ring.calls_begin.Goals as goal

pub returns-clause-at : goal.returns-clause-at
returns-clause-at g c = ring_calls_begin (kind_of g.V.Vault) (λ store. g.S.Store.disk store)

pub returns-clause-sound : goal.returns-clause-sound
returns-clause-sound g c = ring_begins_sound (λ store. g.S.Store.disk store)
