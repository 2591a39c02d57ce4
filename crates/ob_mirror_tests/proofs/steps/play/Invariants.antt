use Rattle.std.proofs.Common.{◌≡◌}
use Rattle.ob_mirror_tests.proofs.steps.play.Given as goal

abbrev pub invariant-loop-word : goal.invariant-loop-word
invariant-loop-word g l = (g.S.Store.disk l.store).out ≡ 0
