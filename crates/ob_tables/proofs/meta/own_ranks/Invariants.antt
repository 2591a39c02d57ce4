use Rattle.std.proofs.Common.{◌≡◌, length}
use Rattle.std.specs.List.{range_with_len}
use Rattle.ob_tables.proofs.meta.own_ranks.Given as goal

abbrev pub invariant-loop-j : goal.invariant-loop-j
invariant-loop-j l = record { is : l.ranks.items ≡ range_with_len 0 l.j; many : length l.ranks.items ≡ l.j }
