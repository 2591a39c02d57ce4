use Rattle.ob_ring_tests.specs.Serving.{IsServing}
use Rattle.ob_ring_tests.proofs.serving.take_steps.Given as goal

abbrev pub invariant-loop-i : goal.invariant-loop-i
invariant-loop-i g l = IsServing (g.S.Store.disk l.store) (g.T.Tape.present l.tape) (g.T.Tape.drawn l.tape) l.serving.run l.serving.crew l.serving.index
