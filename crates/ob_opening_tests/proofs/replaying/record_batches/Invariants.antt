use Rattle.std.proofs.Common.{◌≡◌}
use Rattle.ob_mem.specs.Memory.{disk_of_store}
use Rattle.ob_opening_tests.proofs.replaying.record_batches.Given as goal

abbrev pub invariant-loop-record : goal.invariant-loop-record
invariant-loop-record g l = (disk_of_store l.store).out ≡ 0
