use Rattle.ob_ring_tests.specs.Serving.{AreFitWrites}
use Rattle.ob_ring_tests.proofs.serving.writes_of.Given as goal

abbrev pub invariant-loop-i : goal.invariant-loop-i
invariant-loop-i l = AreFitWrites l.keys l.writes
