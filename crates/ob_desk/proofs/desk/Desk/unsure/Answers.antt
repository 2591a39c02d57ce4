use Rattle.std.proofs.Common.{ap}
use Rattle.ob_desk.specs.Desk.{DeskState}
use Rattle.ob_desk.proofs.Ends.{unsure_step}
use Rattle.ob_desk.proofs.desk.Desk.unsure.Goals as goal

pub returns : goal.returns
returns c = unsure_step c.args.self.now c.halt.new.self c.give_up.new.self c.args.fault c.self.inside.other c.self.inside.is_closed c.requires (ap (λ (d : DeskState). d.closed) c.self.view_is) c.halt.ensures c.give_up.ensures
