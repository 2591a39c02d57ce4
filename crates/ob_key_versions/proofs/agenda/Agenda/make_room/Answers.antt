use Rattle.std.proofs.lemmas.Result.{IfOk-from_err}
use Rattle.ob_key_versions.proofs.Agendas.{moved_rises}
use Rattle.ob_key_versions.proofs.agenda.Agenda.make_room.Goals as goal

pub invariant_of-self : goal.invariant_of-self
invariant_of-self c = let e = c.reserve.ensures in moved_rises _ _ c.self.inside.tickets.items c.reserve.new.self.items e.items e.capacity c.self.invariant

pub invariant_of-self-2 : goal.invariant_of-self-2
invariant_of-self-2 c = let e = c.reserve.ensures in moved_rises _ _ c.self.inside.tickets.items c.reserve.new.self.items e.items e.capacity c.self.invariant

pub returns-in_err-reserve-clause-ok : goal.returns-in_err-reserve-clause-ok
returns-in_err-reserve-clause-ok c = IfOk-from_err c.from_residual.result _ c.from_residual.ensures.0
