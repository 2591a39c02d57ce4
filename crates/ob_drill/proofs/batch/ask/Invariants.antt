use Rattle.std.proofs.Common.{◌≡◌, ◌+◌, ◌<◌, ◌≤◌, ℕ, length, Some, None, slice_index_or}
use Rattle.ob_drill.proofs.batch.ask.Given as goal

abbrev pub invariant-loop-i : goal.invariant-loop-i
invariant-loop-i l = record {
  size : length l.asks ≡ length l.fn.asks;
  keys : (j : ℕ) → j < l.i → j < l.count → slice_index_or l.asks j None ≡ Some (l.first + j);
  pads : (j : ℕ) → j < l.i → l.count ≤ j → slice_index_or l.asks j None ≡ None;
}
