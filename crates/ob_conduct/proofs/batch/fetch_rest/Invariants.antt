use Rattle.std.proofs.Common.{◌≡◌, None, false, List}
use Rattle.ob_serial.specs.VaultKinds.{kind_of}
use Rattle.ob_conduct.specs.Acts.{Batch}
use Rattle.ob_conduct.specs.Scenes.{scene}
use Rattle.ob_conduct.specs.Moves.{ReadsBatches}
use Rattle.ob_conduct.proofs.batch.fetch_rest.Given as goal

abbrev pub decreases-loop-desk : goal.decreases-loop-desk
decreases-loop-desk g l = (g.V.Vault.counts l.vault).left

abbrev pub invariant-loop-desk : goal.invariant-loop-desk
invariant-loop-desk g l = record {
  params : g.V.Vault.params l.vault ≡ l.params;
  goes_on : l.desk.stop ≡ None;
  whole : (g.W.Watch.trace l.watch).broken ≡ false;
  read : (batches : List Batch) × ReadsBatches (kind_of g.V.Vault) l.params (scene l.fn.desk l.fn.vault (g.W.Watch.trace l.fn.watch)) batches (scene l.desk l.vault (g.W.Watch.trace l.watch)) (g.V.Vault.counts l.vault);
}
