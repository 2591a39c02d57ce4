use Rattle.ob_calls.proofs.Inside.{stays_inside, its_txn}
use Rattle.ob_session_tests.proofs.sessions.call_inside.Goals as goal

pub get-got-requires-clause-inside : goal.get-got-requires-clause-inside
get-got-requires-clause-inside g c = its_txn c.args.pass.now c.requires.inside

pub del-done-requires-clause-inside : goal.del-done-requires-clause-inside
del-done-requires-clause-inside g c = its_txn c.args.pass.now c.requires.inside

pub commit-found-requires-clause-inside : goal.commit-found-requires-clause-inside
commit-found-requires-clause-inside g c = its_txn c.args.pass.now c.requires.inside

pub returns-in-Get-clause-stands : goal.returns-in-Get-clause-stands
returns-in-Get-clause-stands g c = stays_inside c.get-got.result c.args.pass.now c.get-got.new.pass c.get-got.ensures.stands c.requires.inside

pub returns-in-Del-clause-stands : goal.returns-in-Del-clause-stands
returns-in-Del-clause-stands g c = stays_inside c.del-done.result c.args.pass.now c.del-done.new.pass c.del-done.ensures.stands c.requires.inside

pub returns-in-Commit-clause-stands : goal.returns-in-Commit-clause-stands
returns-in-Commit-clause-stands g c = c.commit-found.ensures.stands c.requires.inside.2
