use Rattle.std.proofs.Common.{subst}
use Rattle.ob_vault.specs.RingVaults.{RingSound}
use Rattle.ob_serial.specs.Vaults.{VaultState}
use Rattle.ob_ring_vault_tests.proofs.OpenedLaws.{opened_is}
use Rattle.ob_ring_vault_tests.proofs.opening.open_ring.Goals as goal

pub returns-in-Ok-clause-sound : goal.returns-in-Ok-clause-sound
returns-in-Ok-clause-sound g c = λ s content tells stands map.
    let opened = c.in-Ok.ensures.stands s tells stands in
    subst (λ (v : VaultState). RingSound c.over.result.run (g.S.Store.disk c.over.result.lent.store.now) v) (opened_is c.args.setting.now.p s content c.in-Ok.opening opened.params opened.left)
    (c.over.ensures.sound c.args.setting.now.keys c.args.setting.now.p s content (c.in-Ok.ensures.serves.tells tells) opened map)
