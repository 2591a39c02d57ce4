use Rattle.ob_calls.proofs.Inside.{stays_inside, its_txn}
use Rattle.ob_session_tests.proofs.sessions.put.Goals as goal

pub put-requires-clause-inside : goal.put-requires-clause-inside
put-requires-clause-inside g c = its_txn c.args.pass.now c.requires.inside

pub returns-in-Some-clause-inside : goal.returns-in-Some-clause-inside
returns-in-Some-clause-inside g c = stays_inside c.put.result c.args.pass.now c.put.new.pass c.put.ensures.stands c.requires.inside
