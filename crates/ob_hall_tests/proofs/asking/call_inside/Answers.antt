use Rattle.ob_calls.proofs.Inside.{stays_inside, its_txn}
use Rattle.ob_hall_tests.proofs.asking.call_inside.Goals as goal

pub get-got-requires-clause-inside : goal.get-got-requires-clause-inside
get-got-requires-clause-inside g c = its_txn c.args.pass.now c.requires.inside

pub put-done-requires-clause-inside : goal.put-done-requires-clause-inside
put-done-requires-clause-inside g c = its_txn c.args.pass.now c.requires.inside

pub del-done-requires-clause-inside : goal.del-done-requires-clause-inside
del-done-requires-clause-inside g c = its_txn c.args.pass.now c.requires.inside

pub commit-ended-requires-clause-inside : goal.commit-ended-requires-clause-inside
commit-ended-requires-clause-inside g c = its_txn c.args.pass.now c.requires.inside

pub abort-told-requires-clause-inside : goal.abort-told-requires-clause-inside
abort-told-requires-clause-inside g c = its_txn c.args.pass.now c.requires.inside

pub returns-in-Get-clause-stands : goal.returns-in-Get-clause-stands
returns-in-Get-clause-stands g c = stays_inside c.get-got.result c.args.pass.now c.get-got.new.pass c.get-got.ensures.stands c.requires.inside

pub returns-in-Put-clause-stands : goal.returns-in-Put-clause-stands
returns-in-Put-clause-stands g c = stays_inside c.put-done.result c.args.pass.now c.put-done.new.pass c.put-done.ensures.stands c.requires.inside

pub returns-in-Del-clause-stands : goal.returns-in-Del-clause-stands
returns-in-Del-clause-stands g c = stays_inside c.del-done.result c.args.pass.now c.del-done.new.pass c.del-done.ensures.stands c.requires.inside

pub returns-in-Commit-clause-stands : goal.returns-in-Commit-clause-stands
returns-in-Commit-clause-stands g c = c.commit-ended.ensures.stands c.requires.inside.2

pub returns-in-Abort-clause-stands : goal.returns-in-Abort-clause-stands
returns-in-Abort-clause-stands g c = c.abort-told.ensures.stands c.requires.inside.2
