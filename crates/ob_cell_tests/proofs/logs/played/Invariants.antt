use Rattle.std.proofs.Common.{◌≡◌}
use Rattle.ob_cell_tests.proofs.logs.played.Given as goal

abbrev pub invariant-loop-call : goal.invariant-loop-call
invariant-loop-call g l = l.store.log.out ≡ 0
