use Rattle.std.proofs.Common.{◌≡◌, List, None, if◌then◌else◌, get_or, sym, ap, ◌∙◌, ◌+◌, ◌≤◌, length, subst, arith}
use Rattle.std.proofs.lemmas.Bool.{false≢true}
use Rattle.ob_order.specs.Chains.{Sourced}
use Rattle.ob_order.specs.Works as works
use Rattle.ob_order.specs.Works.{Work}
use Rattle.ob_key_versions.specs.Agendas.{Adds}
use Rattle.ob_versions.specs.Ledgers.{HasReaders, ReadersIn, IsAbove}
use Rattle.ob_versions.proofs.Falling.{fallen_to}
use Rattle.ob_versions.proofs.cascade.fall.Goals as goal

pub returns-in-Some-clause-list : goal.returns-in-Some-clause-list
returns-in-Some-clause-list c = λ w at.
    let before = c.args.list.now.items in
    let n = c.args.n in
    let list : c.deref.result.now ≡ before = c.deref.ensures.value in
    let falls = sym c.in-Some.is ∙ (c.falls_on.ensures w (at ∙ ap (λ (ws : List Work). get_or ws n w) (sym list)) ∙ ap (λ (ws : List Work). if works.is_going w.fate then works.least_source (works.is_gone ws) w.ops else None) list) in
    c.fall_at.ensures.list ∙ fallen_to before n w (works.least_source (works.is_gone before) w.ops) c.in-Some.on c.requires.in_range at falls

pub note_readers-requires-clause-in_range : goal.note_readers-requires-clause-in_range
note_readers-requires-clause-in_range c = (omega arith, subst (λ (ws : List Work). c.args.n + 1 ≤ length ws) (sym c.deref-in-Some.ensures.value) (omega (arith, c.requires.in_range)))

pub note_readers-requires-clause-room : goal.note_readers-requires-clause-room
note_readers-requires-clause-room c = subst (λ (ws : List Work). length ws ≤ c.args.agenda.now.room) (sym c.deref-in-Some.ensures.value) c.requires.room

pub note_readers-requires-clause-sourced : goal.note_readers-requires-clause-sourced
note_readers-requires-clause-sourced c = subst Sourced (sym c.deref-in-Some.ensures.value) c.requires.kept.sourced

pub note_readers-requires-clause-readers : goal.note_readers-requires-clause-readers
note_readers-requires-clause-readers c = subst (λ (ws : List Work). HasReaders ws c.args.table.now) (sym c.deref-in-Some.ensures.value) c.requires.kept.readers

pub fall_at-requires-clause-in_range : goal.fall_at-requires-clause-in_range
fall_at-requires-clause-in_range c = (omega arith, omega (arith, c.requires.in_range))

pub fall_at-requires-clause-kept : goal.fall_at-requires-clause-kept
fall_at-requires-clause-kept c = c.requires.kept

pub returns-in-Some-clause-kept : goal.returns-in-Some-clause-kept
returns-in-Some-clause-kept c = c.fall_at.ensures.kept

pub returns-in-Some-clause-has : goal.returns-in-Some-clause-has
returns-in-Some-clause-has c = λ went gone. subst (λ (ws : List Work). ReadersIn ws c.note_readers.new.agenda.tickets (c.args.n + 1) (c.args.n + 1)) c.deref-in-Some.ensures.value c.note_readers.ensures.has

pub returns-in-Some-clause-adds : goal.returns-in-Some-clause-adds
returns-in-Some-clause-adds c = subst (λ (ws : List Work). Adds c.args.agenda.now c.note_readers.new.agenda (IsAbove (c.args.n + 1) ws)) c.deref-in-Some.ensures.value c.note_readers.ensures.adds

pub returns-in_default-clause-kept : goal.returns-in_default-clause-kept
returns-in_default-clause-kept c = c.requires.kept

pub returns-in_default-clause-has : goal.returns-in_default-clause-has
returns-in_default-clause-has c = λ went gone. absurd (false≢true (sym gone ∙ went))
