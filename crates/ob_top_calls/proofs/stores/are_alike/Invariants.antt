use Rattle.std.proofs.Common.{◌≡◌}
use Rattle.ob_mem.specs.Memory.{disk_of_store}
use Rattle.ob_top_calls.proofs.stores.are_alike.Given as goal

abbrev pub invariant-loop-cell : goal.invariant-loop-cell
invariant-loop-cell l = ((disk_of_store l.one).out ≡ 0) × ((disk_of_store l.other).out ≡ 0)
