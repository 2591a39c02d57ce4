use Rattle.std.proofs.Common.{◌≡◌}
use Rattle.ob_flat_tests.proofs.vault.one_epoch.Given as goal

abbrev pub invariant-loop-asked : goal.invariant-loop-asked
invariant-loop-asked g l = g.V.Vault.params l.vault ≡ l.fn.params
