use Rattle.std.proofs.Common.{◌≡◌}
use Rattle.ob_store_tests.proofs.lanes.sealed.Given as goal

abbrev pub invariant-loop-i : goal.invariant-loop-i
invariant-loop-i g l = (g.S.Store.disk l.store).out ≡ 0
