use Rattle.std.proofs.Common.{◌≡◌, None, false, List, length}
use Rattle.ob_serial.specs.VaultKinds.{kind_of}
use Rattle.ob_conduct.specs.Acts.{Batch}
use Rattle.ob_conduct.specs.Scenes.{scene}
use Rattle.ob_driver.specs.Resting.{params_of}
use Rattle.ob_driver.specs.Inside.{ReadsInside}
use Rattle.ob_driver.proofs.ending.read_left.Given as goal

abbrev pub decreases-loop-pass : goal.decreases-loop-pass
decreases-loop-pass g l = (g.V.Vault.counts l.vault).left

abbrev pub invariant-loop-pass : goal.invariant-loop-pass
invariant-loop-pass g l = record {
  params : g.V.Vault.params l.vault ≡ params_of l.hall;
  goes_on : l.desk.stop ≡ None;
  whole : (g.W.Watch.trace l.watch).broken ≡ false;
  places : length l.asks.items ≡ (params_of l.hall).places;
  room : length l.found.items ≡ (params_of l.hall).places;
  read : (batches : List Batch) × ReadsInside (kind_of g.V.Vault) l.hall l.fn.pass (scene l.fn.desk l.fn.vault (g.W.Watch.trace l.fn.watch)) batches l.pass (scene l.desk l.vault (g.W.Watch.trace l.watch)) (g.V.Vault.counts l.vault);
}
