use Rattle.std.proofs.Common.{◌≡◌, None, slice_index_or}
use Rattle.std.specs.List.{find, range_with_len}
use Rattle.ob_tables.specs.Version.{is_key}
use Rattle.ob_tables.proofs.meta.first_with.Given as goal

abbrev pub invariant-loop-j : goal.invariant-loop-j
invariant-loop-j l = find (λ j. is_key l.key (slice_index_or l.keys j None)) (range_with_len 0 l.j) ≡ None
