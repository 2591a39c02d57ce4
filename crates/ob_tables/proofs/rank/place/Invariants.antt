use Rattle.std.proofs.Common.{◌≡◌, ℕ, ◌<◌, slice_index}
use Rattle.ob_tables.specs.Order.{index_at}
use Rattle.ob_tables.proofs.rank.place.Given as goal

abbrev pub invariant-loop-k : goal.invariant-loop-k
invariant-loop-k l = (i : ℕ) → i < l.k → slice_index l.out (index_at l.order i) ≡ i
