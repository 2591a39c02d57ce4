use Rattle.std.proofs.Common.{◌≡◌}
use Rattle.ob_cell_tests.proofs.claiming.store_of.Given as goal

abbrev pub invariant-loop-cell : goal.invariant-loop-cell
invariant-loop-cell g l = l.store.log.out ≡ 0
