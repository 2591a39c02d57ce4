use Rattle.std.proofs.Common.{◌≡◌, ℕ, ◌<◌, slice_index, slice_index_or}
use Rattle.ob_tables.proofs.rank.number.Given as goal

abbrev pub invariant-loop-i : goal.invariant-loop-i
invariant-loop-i l = (k : ℕ) → k < l.i → ◌≡◌ {A = ℕ × ℕ} (slice_index_or l.order k (0, 0)) (slice_index l.words k, k)
