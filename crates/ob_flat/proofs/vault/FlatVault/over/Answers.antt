use Rattle.ob_flat.proofs.Maps.{some_map}
use Rattle.ob_flat.proofs.Soundness.{opened_sound}
use Rattle.ob_flat.proofs.vault.FlatVault.over.Goals as goal

pub returns-clause-sound : goal.returns-clause-sound
returns-clause-sound g c = λ at tells settled opened. opened_sound c.args.opening.sealer.keys c.args.opening.params at c.args.opening (g.S.Store.disk c.args.store.now) tells settled opened

pub returns-clause-some : goal.returns-clause-some
returns-clause-some g c = some_map c.args.opening.values.items
