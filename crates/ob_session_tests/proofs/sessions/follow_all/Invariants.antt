use Rattle.ob_hall.specs.Calling.{IsReady}
use Rattle.ob_hall.specs.Testing.{IsInTxnOrNot}
use Rattle.ob_session_tests.proofs.sessions.follow_all.Given as goal

abbrev pub invariant-loop-line : goal.invariant-loop-line
invariant-loop-line g l = IsReady l.fn.hall l.pass × IsInTxnOrNot l.inside l.pass
