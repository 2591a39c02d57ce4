use Rattle.std.proofs.Common.{◌∙◌, refl}
use Rattle.ob_hall.proofs.Trying.{stopped_turn}
use Rattle.ob_hall_tests.proofs.Passes.{stopped}
use Rattle.ob_hall_tests.proofs.driver.stop_once_asked.Goals as goal

pub leave-requires-clause-desk : goal.leave-requires-clause-desk
leave-requires-clause-desk g c =
    stopped_turn c.args.hall.now c.args.pass.now c.enter-desk.new.pass c.enter-desk.result c.stop.new.self _ c.of.result.value c.enter-desk.ensures.entered c.requires.place c.stop.ensures (c.of.ensures ∙ c.driver-stopped.ensures)

pub returns : goal.returns
returns g c =
    stopped c.args.hall.now c.args.pass.now c.enter-desk.new.pass c.leave.new.pass c.enter-desk.result c.of.result.value _ c.requires.place c.requires.unmade c.enter-desk.ensures.entered c.leave.ensures.left c.leave.ensures.own c.leave.ensures.idle (c.of.ensures ∙ c.driver-stopped.ensures) refl
