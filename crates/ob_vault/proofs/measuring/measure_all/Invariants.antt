use Rattle.std.proofs.Common.{◌<◌, ℕ}
use Rattle.ob_ring.specs.Writing.{write_at}
use Rattle.ob_vault.specs.Knowns.{HasShortValue}
use Rattle.ob_vault.proofs.measuring.measure_all.Given as goal

abbrev pub invariant-loop-write : goal.invariant-loop-write
invariant-loop-write l = (i : ℕ) → i < l.write-index → HasShortValue (write_at l.writes i)
