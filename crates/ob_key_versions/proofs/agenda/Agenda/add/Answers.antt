use Rattle.std.proofs.Common.{◌≡◌, ℕ, ◌≤◌, ◌||◌, ◌==◌, sym, subst}
use Rattle.ob_key_versions.specs.Agendas.{AgendaModel, has_ticket}
use Rattle.ob_key_versions.proofs.Agendas.{missed, found, put_there}
use Rattle.ob_key_versions.proofs.agenda.Agenda.add.Goals as goal

pub invariant_of-self : goal.invariant_of-self
invariant_of-self c =
    let a = c.self.inside.tickets in
    let within = subst (λ (d : AgendaModel). c.args.t ≤ d.room) (sym c.self.view_is) c.requires.1 in
    let place = missed c.binary_search.result a.cap a.items c.args.t c.binary_search.ensures.position c.self.invariant c.requires.0 within c.in-Err.at c.in-Err.is in
    let e = c.insert.ensures in
    (put_there c.insert.result a.cap c.insert.new.self.cap a.len a.items c.insert.new.self.items c.in-Err.at c.args.t a.ok.0 place.0 place.1 e.full e.items e.capacity).0

pub returns-in-Err-clause-has : goal.returns-in-Err-clause-has
returns-in-Err-clause-has c =
    let a = c.self.inside.tickets in
    let within = subst (λ (d : AgendaModel). c.args.t ≤ d.room) (sym c.self.view_is) c.requires.1 in
    let place = missed c.binary_search.result a.cap a.items c.args.t c.binary_search.ensures.position c.self.invariant c.requires.0 within c.in-Err.at c.in-Err.is in
    let e = c.insert.ensures in
    let new = c.insert.new.self.items in
    let has = (put_there c.insert.result a.cap c.insert.new.self.cap a.len a.items new c.in-Err.at c.args.t a.ok.0 place.0 place.1 e.full e.items e.capacity).1 in
    subst (λ (d : AgendaModel). (u : ℕ) → has_ticket new u ≡ ((c.args.t == u) || has_ticket d.tickets u)) c.self.view_is has

pub returns-in_default-clause-has : goal.returns-in_default-clause-has
returns-in_default-clause-has c =
    let a = c.self.inside.tickets in
    subst (λ (d : AgendaModel). (u : ℕ) → has_ticket d.tickets u ≡ ((c.args.t == u) || has_ticket d.tickets u)) c.self.view_is
    (found c.binary_search.result a.cap a.items c.args.t c.binary_search.ensures.position c.self.invariant c.in_default.field-0 c.in_default.is)
