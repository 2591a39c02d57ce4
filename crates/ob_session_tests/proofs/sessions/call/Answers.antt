use Rattle.ob_calls.proofs.Inside.{is_inside, is_between, begun_inside, refused_between}
use Rattle.ob_session_tests.proofs.sessions.call.Goals as goal

pub call_inside-requires-clause-inside : goal.call_inside-requires-clause-inside
call_inside-requires-clause-inside g c = is_inside c.args.inside c.args.pass.now c.if-inside.true c.requires.stands

pub begin-requires-clause-between : goal.begin-requires-clause-between
begin-requires-clause-between g c = is_between c.args.inside c.args.pass.now c.if-inside.false c.requires.stands

pub returns-in-Ok-Txn-clause-stands : goal.returns-in-Ok-Txn-clause-stands
returns-in-Ok-Txn-clause-stands g c = begun_inside c.begin.new.pass c.in-Ok-Txn.field-0 c.in-Ok-Txn.field-0-0 c.in-Ok-Txn.field-0-is c.in-Ok-Txn.ensures.stands

pub returns-in-Ok-Stopped-clause-stands : goal.returns-in-Ok-Stopped-clause-stands
returns-in-Ok-Stopped-clause-stands g c = refused_between c.begin.new.pass c.in-Ok-Stopped.field-0 c.in-Ok-Stopped.field-0-0 c.in-Ok-Stopped.field-0-is c.in-Ok-Stopped.ensures.stands
