use Rattle.std.specs.Prelude.{◌≡◌, ◌==◌, None, slice_index}
use Rattle.std.specs.List.{find, range_with_len}
use Rattle.ob_ring.proofs.plain.index_with.Given as goal

abbrev pub invariant-loop-j : goal.invariant-loop-j
invariant-loop-j l = find (λ j. slice_index l.ranks j == l.slot) (range_with_len 0 l.j) ≡ None
