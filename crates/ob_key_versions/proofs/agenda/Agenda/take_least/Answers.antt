use Rattle.std.proofs.Common.{arith}
use Rattle.ob_key_versions.proofs.Agendas.{rest_rises, rest_above, rises_weaker}
use Rattle.ob_key_versions.proofs.agenda.Agenda.take_least.Goals as goal

pub invariant_of-self : goal.invariant_of-self
invariant_of-self c =
    let a = c.self.inside.tickets in
    let e = c.pop_front.ensures in
    rises_weaker 0 0 a.cap c.pop_front.new.self.cap c.pop_front.new.self.items (omega arith) (omega (arith, e.capacity)) (rest_rises c.pop_front.result a.cap a.items c.pop_front.new.self.items e.items c.self.invariant)

pub returns-clause-above : goal.returns-clause-above
returns-clause-above c =
    let a = c.self.inside.tickets in
    rest_above c.pop_front.result a.cap a.items c.pop_front.new.self.items c.pop_front.ensures.items c.self.invariant
