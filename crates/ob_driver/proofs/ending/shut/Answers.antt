use Rattle.std.proofs.Common.{map, refl}
use Rattle.ob_base.specs.Writes.{pair_of}
use Rattle.ob_desk.specs.Desk as desk
use Rattle.ob_driver.proofs.Turning.{call_leads, turn_made}
use Rattle.ob_driver.proofs.Standing.{ends_left}
use Rattle.ob_driver.proofs.ending.shut.Goals as goal

pub close-requires-clause-may : goal.close-requires-clause-may
close-requires-clause-may c = c.requires.may

pub close-requires-clause-room : goal.close-requires-clause-room
close-requires-clause-room c = c.requires.room

pub leave-requires-clause-desk : goal.leave-requires-clause-desk
leave-requires-clause-desk c =
    rw c.of-made.ensures (call_leads c.args.hall.now c.args.pass.now c.args.desk c.close.new.self (desk.Close, desk.Writes (map pair_of c.close.new.out.items)) c.requires.turn c.requires.may c.close.ensures.step refl)

pub leave-requires-clause-own : goal.leave-requires-clause-own
leave-requires-clause-own c = c.requires.turn.own

pub leave-requires-clause-inside : goal.leave-requires-clause-inside
leave-requires-clause-inside c = c.requires.turn.inside

pub returns-clause-closed : goal.returns-clause-closed
returns-clause-closed c = (c.close.new.self, c.close.ensures.step)

pub returns-clause-made : goal.returns-clause-made
returns-clause-made c = rw c.of-made.ensures at (turn_made c.args.pass.now c.leave.new.pass (desk.Close, desk.Writes (map pair_of c.of-made.result.value.items)) c.leave.ensures.left)

pub returns-clause-ends : goal.returns-clause-ends
returns-clause-ends c = ends_left c.args.pass.now c.leave.new.pass _ c.leave.ensures.left

pub returns-clause-room : goal.returns-clause-room
returns-clause-room c = c.close.ensures.room

pub returns-clause-ear : goal.returns-clause-ear
returns-clause-ear c = c.leave.ensures.left.beside.ear
