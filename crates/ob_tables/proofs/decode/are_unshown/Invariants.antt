use Rattle.std.proofs.Common.{◌≡◌, ◌<◌, ℕ, Some, None, false, slice_index_or}
use Rattle.ob_tables.proofs.decode.are_unshown.Given as goal

abbrev pub invariant-loop-j : goal.invariant-loop-j
invariant-loop-j l = (i k : ℕ) → i < l.j → slice_index_or l.keys i None ≡ Some k → slice_index_or l.used i false ≡ false
