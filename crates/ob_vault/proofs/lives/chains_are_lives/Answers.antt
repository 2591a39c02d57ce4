use Rattle.ob_serial.specs.VaultKinds.{kind_of}
use Rattle.ob_vault.proofs.Chains.{chain_lives}
use Rattle.ob_vault.proofs.lives.chains_are_lives.Goals as goal

pub returns : goal.returns
returns g c = λ runs ring word_of s first last steps at tape called answered.
    chain_lives (kind_of g.V.Vault) (λ x. g.S.Store.disk x) (λ x t image at left. g.met.S.Store.counts_now x t image at left) (λ x image left. g.met.S.Store.only_now x image left) runs ring word_of last steps s first at tape called answered
