use Rattle.std.proofs.Common.{refl}
use Rattle.ob_desk.specs.Desk as desk
use Rattle.ob_driver.proofs.Turning.{call_leads, turn_made}
use Rattle.ob_driver.proofs.Standing.{ends_left}
use Rattle.ob_driver.proofs.fetching.take.Goals as goal

pub leave-requires-clause-desk : goal.leave-requires-clause-desk
leave-requires-clause-desk c =
    rw c.of-batch.ensures (call_leads c.args.hall.now c.args.pass.now c.args.desk c.take_batch.new.desk (desk.TakeBatch, desk.Batch c.take_batch.new.asks.items) c.requires.turn c.requires.may c.take_batch.ensures.taken refl)

pub returns-clause-made : goal.returns-clause-made
returns-clause-made c = rw c.of-batch.ensures at (turn_made c.args.pass.now c.leave.new.pass (desk.TakeBatch, desk.Batch c.of-batch.result.value.items) c.leave.ensures.left)

pub returns-clause-ends : goal.returns-clause-ends
returns-clause-ends c = ends_left c.args.pass.now c.leave.new.pass _ c.leave.ensures.left

pub take_batch-requires-clause-may : goal.take_batch-requires-clause-may
take_batch-requires-clause-may c = c.requires.may

pub take_batch-requires-clause-places : goal.take_batch-requires-clause-places
take_batch-requires-clause-places c = c.requires.places

pub leave-requires-clause-own : goal.leave-requires-clause-own
leave-requires-clause-own c = c.requires.turn.own

pub leave-requires-clause-inside : goal.leave-requires-clause-inside
leave-requires-clause-inside c = c.requires.turn.inside

pub returns-clause-taken : goal.returns-clause-taken
returns-clause-taken c = (c.take_batch.new.desk, c.take_batch.ensures.taken)

pub returns-clause-places : goal.returns-clause-places
returns-clause-places c = c.take_batch.ensures.places

pub returns-clause-ear : goal.returns-clause-ear
returns-clause-ear c = c.leave.ensures.left.beside.ear
