use Rattle.std.proofs.Common.{◌≡◌}
use Rattle.ob_mem.specs.Memory.{disk_of_store}
use Rattle.ob_fault_tests.proofs.rows.harm_all.Given as goal

abbrev pub invariant-loop-text : goal.invariant-loop-text
invariant-loop-text g l =
    (goal.iterator-loop-text g).can_next l.text-iterator ×
    (goal.iterator-loop-text g).is_finite l.text-iterator ×
    ((disk_of_store l.store).out ≡ 0)
