use Rattle.ob_calls.proofs.Inside.{its_txn, is_inside, is_between}
use Rattle.ob_hall_tests.proofs.asking.follow.Goals as goal

pub loop-n-init : goal.loop-n-init
loop-n-init g c = (c.requires.ready, c.requires.between)

pub call_inside-requires-clause-ready : goal.call_inside-requires-clause-ready
call_inside-requires-clause-ready g c = c.loop-n.invariant.0

pub call_inside-requires-clause-inside : goal.call_inside-requires-clause-inside
call_inside-requires-clause-inside g c = is_inside c.loop-n.inside c.loop-n.pass c.if-inside.true c.loop-n.invariant.1

pub call_inside-requires-clause-keys : goal.call_inside-requires-clause-keys
call_inside-requires-clause-keys g c = c.requires.keys

pub call_between-requires-clause-ready : goal.call_between-requires-clause-ready
call_between-requires-clause-ready g c = c.loop-n.invariant.0

pub call_between-requires-clause-between : goal.call_between-requires-clause-between
call_between-requires-clause-between g c = is_between c.loop-n.inside c.loop-n.pass c.if-inside.false c.loop-n.invariant.1

pub abort-requires-clause-ready : goal.abort-requires-clause-ready
abort-requires-clause-ready g c = c.loop-n.invariant.0

pub abort-requires-clause-inside : goal.abort-requires-clause-inside
abort-requires-clause-inside g c = its_txn c.loop-n.pass (is_inside c.loop-n.inside c.loop-n.pass c.if-inside-2.true c.loop-n.invariant.1)
