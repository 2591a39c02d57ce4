use Rattle.std.proofs.Common.{refl}
use Rattle.ob_desk.specs.Desk as desk
use Rattle.ob_driver.proofs.Turning.{call_leads, turn_made}
use Rattle.ob_driver.proofs.Standing.{ends_left}
use Rattle.ob_driver.proofs.ending.stop_inside.Goals as goal

pub leave-requires-clause-desk : goal.leave-requires-clause-desk
leave-requires-clause-desk c = call_leads c.args.hall.now c.args.pass.now c.args.desk c.stop.new.self (desk.Stop c.args.fault, desk.Done) c.requires.turn tt c.stop.ensures refl

pub returns-clause-made : goal.returns-clause-made
returns-clause-made c = turn_made c.args.pass.now c.leave.new.pass (desk.Stop c.args.fault, desk.Done) c.leave.ensures.left

pub returns-clause-ends : goal.returns-clause-ends
returns-clause-ends c = ends_left c.args.pass.now c.leave.new.pass _ c.leave.ensures.left

pub leave-requires-clause-own : goal.leave-requires-clause-own
leave-requires-clause-own c = c.requires.turn.own

pub leave-requires-clause-inside : goal.leave-requires-clause-inside
leave-requires-clause-inside c = c.requires.turn.inside

pub returns-clause-ear : goal.returns-clause-ear
returns-clause-ear c = c.leave.ensures.left.beside.ear

pub returns-clause-own : goal.returns-clause-own
returns-clause-own c = c.leave.ensures.own

pub returns-clause-idle : goal.returns-clause-idle
returns-clause-idle c = c.leave.ensures.idle
