use Rattle.ob_hall.specs.Calling.{IsReady}
use Rattle.ob_hall.specs.Testing.{IsInTxnOrNot}
use Rattle.ob_hall_tests.proofs.asking.follow.Given as goal

abbrev pub invariant-loop-n : goal.invariant-loop-n
invariant-loop-n g l = IsReady l.fn.hall l.pass × IsInTxnOrNot l.inside l.pass
