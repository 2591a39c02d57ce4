use Rattle.std.proofs.Common.{◌≡◌}
use Rattle.ob_flat_tests.proofs.vault.all_epochs.Given as goal

abbrev pub invariant-loop-epoch : goal.invariant-loop-epoch
invariant-loop-epoch g l = g.V.Vault.params l.vault ≡ l.fn.params
