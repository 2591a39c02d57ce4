use Rattle.std.specs.Prelude.{◌≡◌, ◌≤◌, slice_index_or, false}
use Rattle.std.specs.List.{count_by, range_with_len}
use Rattle.ob_ring.proofs.reads.reads.Given as goal

abbrev pub invariant-loop-j : goal.invariant-loop-j
invariant-loop-j l = (l.many ≡ count_by (λ i. slice_index_or l.used i false) (range_with_len 0 l.j)) × (l.many ≤ l.j)
