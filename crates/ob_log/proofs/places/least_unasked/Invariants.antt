use Rattle.std.proofs.Common.{◌≡◌, ◌+◌, ℕ, length}
use Rattle.ob_log.specs.Places.{least_from}
use Rattle.ob_log.proofs.places.least_unasked.Given as goal

abbrev pub invariant-loop-key : goal.invariant-loop-key
invariant-loop-key l = record {
  so_far : (left : ℕ) → l.key + left ≡ length l.asks → least_from l.asks 0 (length l.asks) ≡ least_from l.asks l.key left;
}
