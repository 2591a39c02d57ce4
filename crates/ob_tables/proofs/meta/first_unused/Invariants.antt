use Rattle.std.proofs.Common.{◌≡◌, ◌-◌, not, None, slice_index_or, false}
use Rattle.std.specs.List.{find, range_with_len}
use Rattle.ob_tables.proofs.meta.first_unused.Given as goal

abbrev pub invariant-loop-j : goal.invariant-loop-j
invariant-loop-j l = find (λ j. not (slice_index_or l.used j false)) (range_with_len l.from (l.j - l.from)) ≡ None
