use Rattle.std.specs.Prelude.{◌≡◌, ◌<◌, ℕ, slice_get, Some}
use Rattle.ob_ring_vault_tests.proofs.calls.are_distinct.Given as goal

abbrev pub invariant-loop-i : goal.invariant-loop-i
invariant-loop-i l = (i j key : ℕ) → i < l.i → slice_get l.asks i ≡ Some (Some key) → slice_get l.asks j ≡ Some (Some key) → i ≡ j
