use Rattle.std.proofs.Common.{◌≡◌}
use Rattle.ob_mem.specs.Memory.{disk_of_store}
use Rattle.ob_twin.specs.declared.twin.Twin.TheVariants.{EPOCH}
use Rattle.ob_twin.specs.Register.{first_of}
use Rattle.ob_twin.specs.Opening.{known_of, GatesAre}
use Rattle.ob_seal_tests.proofs.registers.refused_at.Given as goal

abbrev pub invariant-loop-number : goal.invariant-loop-number
invariant-loop-number l =
    (l.store.log.out ≡ 0) × ((disk_of_store l.store).tells → GatesAre (known_of EPOCH l.gates) (first_of EPOCH) (disk_of_store l.store).cells)
