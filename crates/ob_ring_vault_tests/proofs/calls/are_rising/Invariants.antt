use Rattle.std.specs.Prelude.{ℕ, ◌<◌, ◌+◌, map, slice_index}
use Rattle.ob_ring_vault_tests.proofs.calls.are_rising.Given as goal

abbrev pub invariant-loop-i : goal.invariant-loop-i
invariant-loop-i l = (k : ℕ) → k + 1 < l.i → slice_index (map (λ w. w.key) l.writes) k < slice_index (map (λ w. w.key) l.writes) (k + 1)
