use Rattle.std.proofs.Common.{◌≡◌}
use Rattle.ob_mem.specs.Memory.{disk_of_store}
use Rattle.ob_top_tests.proofs.worked.after_two_epochs.Given as goal

abbrev pub invariant-loop-cell : goal.invariant-loop-cell
invariant-loop-cell g l = (disk_of_store l.store.store).out ≡ 0
