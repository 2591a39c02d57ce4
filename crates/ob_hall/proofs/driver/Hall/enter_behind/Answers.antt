use Rattle.std.proofs.Common.{refl}
use Rattle.ob_hall.proofs.Keeping.{entered_own}
use Rattle.ob_hall.proofs.driver.Hall.enter_behind.Goals as goal

pub returns-clause-behind : goal.returns-clause-behind
returns-clause-behind g c = (c.take_behind.ensures.stands.behind, c.take_behind.ensures.stands.place)

pub returns-clause-own : goal.returns-clause-own
returns-clause-own g c =
    entered_own c.args.self.now c.args.pass.now (record c.args.pass.now { seat = c.take_behind.new.seat }) c.take_behind.result.0 c.requires.own (record { enters = c.take_behind.ensures.entered; beside = record { ear = refl; client = refl; last = refl } })
