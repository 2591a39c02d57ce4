use Rattle.ob_calls.proofs.Inside.{begun_inside, refused_between}
use Rattle.ob_hall_tests.proofs.asking.call_between.Goals as goal

pub returns-in-Ok-Txn-clause-stands : goal.returns-in-Ok-Txn-clause-stands
returns-in-Ok-Txn-clause-stands g c = begun_inside c.begin.new.pass c.in-Ok-Txn.field-0 c.in-Ok-Txn.field-0-0 c.in-Ok-Txn.field-0-is c.in-Ok-Txn.ensures.stands

pub returns-in-Ok-Stopped-clause-stands : goal.returns-in-Ok-Stopped-clause-stands
returns-in-Ok-Stopped-clause-stands g c = refused_between c.begin.new.pass c.in-Ok-Stopped.field-0 c.in-Ok-Stopped.fault c.in-Ok-Stopped.field-0-is c.in-Ok-Stopped.ensures.stands

pub begin-requires-clause-ready : goal.begin-requires-clause-ready
begin-requires-clause-ready g c = c.requires.ready

pub begin-requires-clause-between : goal.begin-requires-clause-between
begin-requires-clause-between g c = c.requires.between

pub returns-in-Ok-Txn-clause-ready : goal.returns-in-Ok-Txn-clause-ready
returns-in-Ok-Txn-clause-ready g c = c.in-Ok-Txn.ensures.ready

pub returns-in-Ok-Stopped-clause-ready : goal.returns-in-Ok-Stopped-clause-ready
returns-in-Ok-Stopped-clause-ready g c = c.in-Ok-Stopped.ensures.ready

pub returns-in-Err-clause-ready : goal.returns-in-Err-clause-ready
returns-in-Err-clause-ready g c = c.in-Err.ensures.ready

pub returns-in-Err-clause-stands : goal.returns-in-Err-clause-stands
returns-in-Err-clause-stands g c = c.in-Err.ensures.stands

pub returns-in-Durable-clause-ready : goal.returns-in-Durable-clause-ready
returns-in-Durable-clause-ready g c = c.durable.ensures.ready c.requires.ready

pub returns-in-Durable-clause-stands : goal.returns-in-Durable-clause-stands
returns-in-Durable-clause-stands g c = c.durable.ensures.stands.0 c.requires.between
