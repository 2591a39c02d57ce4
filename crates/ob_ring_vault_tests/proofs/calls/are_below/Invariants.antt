use Rattle.std.specs.Prelude.{◌≡◌, ◌<◌, ℕ, slice_get, Some}
use Rattle.ob_ring_vault_tests.proofs.calls.are_below.Given as goal

abbrev pub invariant-loop-i : goal.invariant-loop-i
invariant-loop-i l = (k key : ℕ) → k < l.i → slice_get l.asks k ≡ Some (Some key) → key < l.keys
