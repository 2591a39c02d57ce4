use Rattle.ob_calls.proofs.Inside.{its_txn, is_inside}
use Rattle.ob_session_tests.proofs.sessions.follow_all.Goals as goal

pub abort-requires-clause-inside : goal.abort-requires-clause-inside
abort-requires-clause-inside g c = its_txn c.loop-line.pass (is_inside c.loop-line.inside c.loop-line.pass c.if-inside.true c.loop-line.invariant.1)
