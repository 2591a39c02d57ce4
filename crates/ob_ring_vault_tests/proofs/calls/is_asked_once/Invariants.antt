use Rattle.std.specs.Prelude.{◌≡◌, ◌<◌, ℕ, slice_get, Some}
use Rattle.ob_ring_vault_tests.proofs.calls.is_asked_once.Given as goal

abbrev pub invariant-loop-j : goal.invariant-loop-j
invariant-loop-j l = (k key : ℕ) → k < l.j → slice_get l.asks l.place ≡ Some (Some key) → slice_get l.asks k ≡ Some (Some key) → l.place ≡ k
