use Rattle.std.proofs.Common.{◌≡◌, List, ap, ◌∙◌, subst, arith, length, sym, ◌≤◌}
use Rattle.ob_order.specs.Chains.{Sourced}
use Rattle.ob_order.specs.Works.{Work, end_work, edit}
use Rattle.ob_order.proofs.Edits.{length-edit}
use Rattle.ob_order.proofs.Falls.{length-cascade}
use Rattle.ob_order.proofs.Steps.{live_within, live_above}
use Rattle.ob_key_versions.specs.Agendas.{Adds}
use Rattle.ob_versions.specs.Ledgers.{ReadersIn, IsAbove, HasReaders}
use Rattle.ob_versions.proofs.Pending.{running_begins, running_on, running_ends, next_place, smaller}
use Rattle.ob_versions.proofs.cascade.abort_in.Goals as goal

pub loop-next-init : goal.loop-next-init
loop-next-init c =
    let before = c.args.list.now.items in
    let t = c.args.t in
    let agenda = c.note_readers.new.agenda in
    let e = c.note_readers.ensures in
    let has = subst (λ (ws : List Work). ReadersIn ws agenda.tickets t t) c.deref.ensures.value e.has in
    let adds = subst (λ (ws : List Work). Adds c.args.agenda.now agenda (IsAbove t ws)) c.deref.ensures.value e.adds in
    running_begins before t c.args.keys c.end_at.new.written c.end_at.new.list.items c.end_at.new.table c.args.agenda.now agenda c.requires.tidy.rises (live_within before t c.requires.live) c.requires.ready has adds c.end_at.ensures.list c.end_at.ensures.kept

pub overflow_sub-next : goal.overflow_sub-next
overflow_sub-next c =
    let l = c.loop-next in
    (next_place c.args.list.now.items c.args.t c.args.keys l.written l.list.items l.table l.agenda c.take_least.new.self c.in-Some.next l.invariant c.in-Some.ensures.least c.in-Some.ensures.above).0

pub fall-requires-clause-in_range : goal.fall-requires-clause-in_range
fall-requires-clause-in_range c =
    let l = c.loop-next in
    (next_place c.args.list.now.items c.args.t c.args.keys l.written l.list.items l.table l.agenda c.take_least.new.self c.in-Some.next l.invariant c.in-Some.ensures.least c.in-Some.ensures.above).1

pub fall-requires-clause-room : goal.fall-requires-clause-room
fall-requires-clause-room c =
    let l = c.loop-next in
    let before = c.args.list.now.items in
    let now = edit end_work before c.args.t in
    let len : length l.list.items ≡ length before = ap length l.invariant.so_far ∙ (length-cascade before now l.invariant.last ∙ length-edit end_work before c.args.t) in
    omega (arith, len, l.invariant.room, c.take_least.ensures.room)

pub loop-next-preserved : goal.loop-next-preserved
loop-next-preserved c =
    let l = c.loop-next in
    let e = c.fall.ensures in
    running_on c.args.list.now.items c.args.t c.args.keys l.written c.fall.new.written l.list.items c.fall.new.list.items l.table c.fall.new.table l.agenda c.take_least.new.self c.fall.new.agenda c.in-Some.next c.requires.tidy l.invariant
    c.in-Some.ensures.least c.in-Some.ensures.above c.take_least.ensures.room e.list e.kept e.has e.adds

pub loop-next-smaller : goal.loop-next-smaller
loop-next-smaller c =
    let l = c.loop-next in
    smaller c.args.list.now.items c.args.t c.args.keys l.written l.list.items l.table l.agenda c.take_least.new.self c.fall.new.agenda c.in-Some.next l.invariant c.in-Some.ensures.least c.in-Some.ensures.above c.fall.ensures.adds

pub returns-clause-list : goal.returns-clause-list
returns-clause-list c =
    let l = c.loop-next in
    (running_ends c.args.list.now.items c.args.t c.args.keys l.written l.list.items l.table l.agenda c.take_least.new.self l.invariant c.in_default.ensures.least.0 c.in_default.ensures.least.1 c.take_least.ensures.room).0

pub returns-clause-ready : goal.returns-clause-ready
returns-clause-ready c =
    let l = c.loop-next in
    (running_ends c.args.list.now.items c.args.t c.args.keys l.written l.list.items l.table l.agenda c.take_least.new.self l.invariant c.in_default.ensures.least.0 c.in_default.ensures.least.1 c.take_least.ensures.room).2

pub note_readers-requires-clause-in_range : goal.note_readers-requires-clause-in_range
note_readers-requires-clause-in_range c = let live = c.requires.live in let before = c.args.list.now.items in (live_above before c.args.t live, subst (λ (ws : List Work). c.args.t ≤ length ws) (sym c.deref.ensures.value) (live_within before c.args.t live))

pub note_readers-requires-clause-room : goal.note_readers-requires-clause-room
note_readers-requires-clause-room c = subst (λ (ws : List Work). length ws ≤ c.args.agenda.now.room) (sym c.deref.ensures.value) c.requires.ready.0

pub note_readers-requires-clause-sourced : goal.note_readers-requires-clause-sourced
note_readers-requires-clause-sourced c = subst Sourced (sym c.deref.ensures.value) c.requires.kept.sourced

pub note_readers-requires-clause-readers : goal.note_readers-requires-clause-readers
note_readers-requires-clause-readers c = subst (λ (ws : List Work). HasReaders ws c.args.table.now) (sym c.deref.ensures.value) c.requires.kept.readers

pub end_at-requires-clause-in_range : goal.end_at-requires-clause-in_range
end_at-requires-clause-in_range c = let live = c.requires.live in let before = c.args.list.now.items in (live_above before c.args.t live, live_within before c.args.t live)

pub end_at-requires-clause-kept : goal.end_at-requires-clause-kept
end_at-requires-clause-kept c = c.requires.kept

pub fall-requires-clause-kept : goal.fall-requires-clause-kept
fall-requires-clause-kept c = c.loop-next.invariant.kept

pub returns-clause-kept : goal.returns-clause-kept
returns-clause-kept c = c.loop-next.invariant.kept
