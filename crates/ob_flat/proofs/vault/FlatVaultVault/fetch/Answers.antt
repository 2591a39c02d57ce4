use Rattle.ob_flat.proofs.Soundness.{fetch_in, lent_leaves}
use Rattle.ob_flat.proofs.vault.FlatVaultVault.fetch.Goals as goal

pub returns-clause-images : goal.returns-clause-images
returns-clause-images g c = λ v sound.
    lent_leaves _ _ _ _ _ (fetch_in c.args.self.now.held.sealer.keys c.args.self.now.params c.args.self.now.held.sealer.generation _ c.args.self.now.values.items (g.S.Store.disk c.args.self.now.held.store.now) v c.args.asks.now sound (g.met.S.Store.only_now c.args.self.now.held.store.now))
