use Rattle.std.proofs.Common.{◌∙◌, Some, refl, sym}
use Rattle.ob_io.specs.Streams.{outflow}
use Rattle.ob_serial.specs.VaultKinds.{kind_of}
use Rattle.ob_desk.specs.Beats.{beat_kind}
use Rattle.ob_driver.specs.Resting.{params_of}
use Rattle.ob_driver.specs.declared.round.Round.TheVariants as rounds
use Rattle.ob_driver.proofs.Resting.{ready_in}
use Rattle.ob_driver.proofs.Seeing.{stop_memory, some_left, found_leads, found_turn, looks_lead, looked_turn, over_at, is_looking, looks_on}
use Rattle.ob_driver.proofs.Answering.{if_ok_at, if_err, never_over, rested_never}
use Rattle.ob_driver.proofs.Lines.{done_from, fails_from, rested_once, halted_once}
use Rattle.ob_driver.proofs.Standing.{ends_left, goes_on_ended, goes_noted, at_noted, made_entered}
use Rattle.ob_driver.proofs.looking.look_once.Goals as goal

pub leave-requires-clause-desk : goal.leave-requires-clause-desk
leave-requires-clause-desk g c =
    found_leads c.args.hall.now c.args.pass.now c.enter_behind-desk.new.pass c.enter_behind-desk.result.0 (g.V.Vault.counts c.args.vault.now) c.requires.rests.at c.enter_behind-desk.ensures.own c.enter_behind-desk.ensures.entered (Some c.in-Some.found) (sym c.in-Some.is ∙ c.stopped-fault.ensures.0)

pub returns-in-Some-clause-failed : goal.returns-in-Some-clause-failed
returns-in-Some-clause-failed g c =
    halted_once (kind_of g.V.Vault) (beat_kind g.B.Beat.passes g.B.Beat.exact) c.args.hall.now c.args.pass.now c.leave.new.pass c.args.vault.now (g.W.Watch.trace c.args.watch.now) (outflow g.O.Sink c.args.output.now) (g.V.Vault.counts c.args.vault.now)
    c.in-Some.found (found_turn c.args.hall.now c.args.pass.now c.enter_behind-desk.new.pass c.enter_behind-desk.result.0 (g.V.Vault.counts c.args.vault.now) c.requires.rests.at c.enter_behind-desk.ensures.own c.enter_behind-desk.ensures.entered
    c.leave.new.pass (Some c.in-Some.found) c.leave.ensures.left) (c.leave.ensures.left.beside.ear ∙ c.enter_behind-desk.ensures.entered.beside.ear) c.leave.ensures.own c.leave.ensures.idle
    (stop_memory (params_of c.args.hall.now) c.enter_behind-desk.result.0 (g.V.Vault.counts c.args.vault.now) c.in-Some.found
    (ready_in c.args.hall.now c.args.pass.now c.enter_behind-desk.new.pass c.enter_behind-desk.result.0 (g.V.Vault.counts c.args.vault.now) c.requires.rests.at c.enter_behind-desk.ensures.entered) (sym c.in-Some.is ∙ c.stopped-fault.ensures.0))

pub look-look-requires : goal.look-look-requires
look-look-requires g c =
    (ready_in c.args.hall.now c.args.pass.now c.enter_behind-desk.new.pass c.enter_behind-desk.result.0 (g.V.Vault.counts c.args.vault.now) c.requires.rests.at c.enter_behind-desk.ensures.entered).none_closed

pub leave-requires-in-Over-clause-desk : goal.leave-requires-in-Over-clause-desk
leave-requires-in-Over-clause-desk g c =
    looks_lead c.args.hall.now c.args.pass.now c.enter_behind-desk.new.pass c.enter_behind-desk.result.0 (g.V.Vault.counts c.args.vault.now) c.requires.rests.at c.enter_behind-desk.ensures.own c.enter_behind-desk.ensures.entered c.note.new.pass
    c.look-look.result (sym c.in_default.is ∙ c.stopped-fault.ensures.0) (rw c.in_default.is at c.note.ensures.noted) c.note.ensures.own c.look-look.ensures.0

pub leave-requires-in-Rest-clause-desk : goal.leave-requires-in-Rest-clause-desk
leave-requires-in-Rest-clause-desk g c =
    looks_lead c.args.hall.now c.args.pass.now c.enter_behind-desk.new.pass c.enter_behind-desk.result.0 (g.V.Vault.counts c.args.vault.now) c.requires.rests.at c.enter_behind-desk.ensures.own c.enter_behind-desk.ensures.entered c.note.new.pass
    c.look-look.result (sym c.in_default.is ∙ c.stopped-fault.ensures.0) (rw c.in_default.is at c.note.ensures.noted) c.note.ensures.own c.look-look.ensures.0

pub fetch-requires-clause-looking : goal.fetch-requires-clause-looking
fetch-requires-clause-looking g c κs within =
    is_looking c.args.hall.now c.args.pass.now c.enter_behind-desk.new.pass c.enter_behind-desk.result.0 (g.V.Vault.counts c.args.vault.now) c.requires.rests.at c.enter_behind-desk.ensures.own c.enter_behind-desk.ensures.entered c.note.new.pass
    c.look-look.result (sym c.in_default.is ∙ c.stopped-fault.ensures.0) (rw c.in_default.is at c.note.ensures.noted) c.note.ensures.own c.note-in-Fetch.new.pass c.look-look.ensures.0 c.note-in-Fetch.ensures.noted c.note-in-Fetch.ensures.own

pub end_and_tell-requires-clause-looking : goal.end_and_tell-requires-clause-looking
end_and_tell-requires-clause-looking g c κs within =
    is_looking c.args.hall.now c.args.pass.now c.enter_behind-desk.new.pass c.enter_behind-desk.result.0 (g.V.Vault.counts c.args.vault.now) c.requires.rests.at c.enter_behind-desk.ensures.own c.enter_behind-desk.ensures.entered c.note.new.pass
    c.look-look.result (sym c.in_default.is ∙ c.stopped-fault.ensures.0) (rw c.in_default.is at c.note.ensures.noted) c.note.ensures.own c.note-in-End.new.pass c.look-look.ensures.0 c.note-in-End.ensures.noted c.note-in-End.ensures.own

pub fetch-requires-clause-some_left : goal.fetch-requires-clause-some_left
fetch-requires-clause-some_left g c κs within =
    some_left (params_of c.args.hall.now) c.enter_behind-desk.result.0 (g.V.Vault.counts c.args.vault.now) c.look-look.result
    (ready_in c.args.hall.now c.args.pass.now c.enter_behind-desk.new.pass c.enter_behind-desk.result.0 (g.V.Vault.counts c.args.vault.now) c.requires.rests.at c.enter_behind-desk.ensures.entered) c.look-look.ensures.0 c.in-Fetch.ensures.may.1

pub returns-in-Over-clause-acted : goal.returns-in-Over-clause-acted
returns-in-Over-clause-acted g c =
    rested_once (kind_of g.V.Vault) (beat_kind g.B.Beat.passes g.B.Beat.exact) c.args.hall.now c.args.pass.now c.leave-in-Over.new.pass c.args.vault.now (g.W.Watch.trace c.args.watch.now) (outflow g.O.Sink c.args.output.now) (g.V.Vault.counts c.args.vault.now)
    c.look-look.result c.requires.rests.at (looked_turn c.args.hall.now c.args.pass.now c.enter_behind-desk.new.pass c.enter_behind-desk.result.0 (g.V.Vault.counts c.args.vault.now) c.requires.rests.at c.enter_behind-desk.ensures.own
    c.enter_behind-desk.ensures.entered c.note.new.pass c.look-look.result (sym c.in_default.is ∙ c.stopped-fault.ensures.0) (rw c.in_default.is at c.note.ensures.noted) c.note.ensures.own c.leave-in-Over.new.pass c.leave-in-Over.ensures.left)
    (c.leave-in-Over.ensures.left.beside.ear ∙ (c.note.ensures.noted.beside.ear ∙ c.enter_behind-desk.ensures.entered.beside.ear)) c.leave-in-Over.ensures.own c.leave-in-Over.ensures.idle c.in-Over.ensures.may.0 c.requires.whole rounds.Over (c.look-look.result, refl, c.in-Over.ensures.may.1)

pub returns-in-Rest-clause-acted : goal.returns-in-Rest-clause-acted
returns-in-Rest-clause-acted g c =
    rested_once (kind_of g.V.Vault) (beat_kind g.B.Beat.passes g.B.Beat.exact) c.args.hall.now c.args.pass.now c.leave-in-Rest.new.pass c.args.vault.now (g.W.Watch.trace c.args.watch.now) (outflow g.O.Sink c.args.output.now) (g.V.Vault.counts c.args.vault.now)
    c.look-look.result c.requires.rests.at (looked_turn c.args.hall.now c.args.pass.now c.enter_behind-desk.new.pass c.enter_behind-desk.result.0 (g.V.Vault.counts c.args.vault.now) c.requires.rests.at c.enter_behind-desk.ensures.own
    c.enter_behind-desk.ensures.entered c.note.new.pass c.look-look.result (sym c.in_default.is ∙ c.stopped-fault.ensures.0) (rw c.in_default.is at c.note.ensures.noted) c.note.ensures.own c.leave-in-Rest.new.pass c.leave-in-Rest.ensures.left)
    (c.leave-in-Rest.ensures.left.beside.ear ∙ (c.note.ensures.noted.beside.ear ∙ c.enter_behind-desk.ensures.entered.beside.ear)) c.leave-in-Rest.ensures.own c.leave-in-Rest.ensures.idle c.in-Rest.ensures.may.0 c.requires.whole rounds.Rested (c.look-look.result, refl, c.in-Rest.ensures.may.1)

pub returns-in-Over-clause-over : goal.returns-in-Over-clause-over
returns-in-Over-clause-over g c =
    λ is. over_at c.args.hall.now c.args.pass.now c.enter_behind-desk.new.pass c.enter_behind-desk.result.0 (g.V.Vault.counts c.args.vault.now) c.requires.rests.at c.enter_behind-desk.ensures.own c.enter_behind-desk.ensures.entered c.note.new.pass
    c.look-look.result (sym c.in_default.is ∙ c.stopped-fault.ensures.0) (rw c.in_default.is at c.note.ensures.noted) c.note.ensures.own c.leave-in-Over.new.pass c.leave-in-Over.ensures.left c.look-look.ensures.0 c.in-Over.ensures.may.1

pub returns-in-Some-clause-stand : goal.returns-in-Some-clause-stand
returns-in-Some-clause-stand g c =
    let count = c.enter_behind-desk.result.1 in
    let at = c.enter_behind-desk.ensures.behind.1 in
    made_entered c.args.hall.now c.args.pass.now c.enter_behind-desk.new.pass c.leave.new.pass c.enter_behind-desk.result.0 c.args.turns.now c.enter_behind-desk.result.1 count c.enter_behind-desk.ensures.entered c.enter_behind-desk.ensures.behind
    (goes_on_ended c.enter_behind-desk.new.pass c.leave.new.pass count at (ends_left c.enter_behind-desk.new.pass c.leave.new.pass _ c.leave.ensures.left))

pub returns-in-Over-clause-stand : goal.returns-in-Over-clause-stand
returns-in-Over-clause-stand g c =
    let count = c.enter_behind-desk.result.1 in
    let at = c.enter_behind-desk.ensures.behind.1 in
    made_entered c.args.hall.now c.args.pass.now c.enter_behind-desk.new.pass c.leave-in-Over.new.pass c.enter_behind-desk.result.0 c.args.turns.now c.enter_behind-desk.result.1 count c.enter_behind-desk.ensures.entered c.enter_behind-desk.ensures.behind
    (goes_noted c.enter_behind-desk.new.pass c.note.new.pass c.leave-in-Over.new.pass _ count count c.note.ensures.noted
    (goes_on_ended c.note.new.pass c.leave-in-Over.new.pass count (at_noted c.enter_behind-desk.new.pass c.note.new.pass _ count c.note.ensures.noted at) (ends_left c.note.new.pass c.leave-in-Over.new.pass _ c.leave-in-Over.ensures.left)))

pub returns-in-Rest-clause-stand : goal.returns-in-Rest-clause-stand
returns-in-Rest-clause-stand g c =
    let count = c.enter_behind-desk.result.1 in
    let at = c.enter_behind-desk.ensures.behind.1 in
    made_entered c.args.hall.now c.args.pass.now c.enter_behind-desk.new.pass c.leave-in-Rest.new.pass c.enter_behind-desk.result.0 c.args.turns.now c.enter_behind-desk.result.1 count c.enter_behind-desk.ensures.entered c.enter_behind-desk.ensures.behind
    (goes_noted c.enter_behind-desk.new.pass c.note.new.pass c.leave-in-Rest.new.pass _ count count c.note.ensures.noted
    (goes_on_ended c.note.new.pass c.leave-in-Rest.new.pass count (at_noted c.enter_behind-desk.new.pass c.note.new.pass _ count c.note.ensures.noted at) (ends_left c.note.new.pass c.leave-in-Rest.new.pass _ c.leave-in-Rest.ensures.left)))

pub fetch-requires-clause-turns : goal.fetch-requires-clause-turns
fetch-requires-clause-turns g c κs within =
    at_noted c.note.new.pass c.note-in-Fetch.new.pass _ c.enter_behind-desk.result.1 c.note-in-Fetch.ensures.noted (at_noted c.enter_behind-desk.new.pass c.note.new.pass _ c.enter_behind-desk.result.1 c.note.ensures.noted c.enter_behind-desk.ensures.behind.1)

pub end_and_tell-requires-clause-turns : goal.end_and_tell-requires-clause-turns
end_and_tell-requires-clause-turns g c κs within =
    at_noted c.note.new.pass c.note-in-End.new.pass _ c.enter_behind-desk.result.1 c.note-in-End.ensures.noted (at_noted c.enter_behind-desk.new.pass c.note.new.pass _ c.enter_behind-desk.result.1 c.note.ensures.noted c.enter_behind-desk.ensures.behind.1)

pub returns-in-Fetch-clause-acted : goal.returns-in-Fetch-clause-acted
returns-in-Fetch-clause-acted g c =
    let f = looks_on c.args.hall.now c.args.pass.now c.enter_behind-desk.new.pass c.enter_behind-desk.result.0 (g.V.Vault.counts c.args.vault.now) c.requires.rests.at c.enter_behind-desk.ensures.own
    c.enter_behind-desk.ensures.entered c.note.new.pass c.look-look.result (sym c.in_default.is ∙ c.stopped-fault.ensures.0) (rw c.in_default.is at c.note.ensures.noted) c.note.ensures.own
    c.note-in-Fetch.new.pass c.look-look.ensures.0 c.note-in-Fetch.ensures.noted c.note-in-Fetch.ensures.own in
    if_ok_at c.fetch.result _ rounds.Acted _
    (λ done. done_from (kind_of g.V.Vault) (beat_kind g.B.Beat.passes g.B.Beat.exact) c.args.hall.now c.args.pass.now c.note-in-Fetch.new.pass c.args.vault.now (g.W.Watch.trace c.args.watch.now)
    (outflow g.O.Sink c.args.output.now) (g.V.Vault.counts c.args.vault.now) _ (g.V.Vault.counts c.fetch.new.vault) rounds.Acted f.entries f.raised f.place done)
    (c.fetch.ensures.fetched (beat_kind g.B.Beat.passes g.B.Beat.exact) c.look-look.result (outflow g.O.Sink c.args.output.now) f.noted c.in-Fetch.ensures.may.0 c.in-Fetch.ensures.may.1) c.fetch.ensures.acts

pub returns-in-Fetch-clause-failed : goal.returns-in-Fetch-clause-failed
returns-in-Fetch-clause-failed g c =
    let f = looks_on c.args.hall.now c.args.pass.now c.enter_behind-desk.new.pass c.enter_behind-desk.result.0 (g.V.Vault.counts c.args.vault.now) c.requires.rests.at c.enter_behind-desk.ensures.own
    c.enter_behind-desk.ensures.entered c.note.new.pass c.look-look.result (sym c.in_default.is ∙ c.stopped-fault.ensures.0) (rw c.in_default.is at c.note.ensures.noted) c.note.ensures.own
    c.note-in-Fetch.new.pass c.look-look.ensures.0 c.note-in-Fetch.ensures.noted c.note-in-Fetch.ensures.own in
    if_err c.fetch.result _ _
    (λ fault fails. fails_from (kind_of g.V.Vault) (beat_kind g.B.Beat.passes g.B.Beat.exact) c.args.hall.now c.args.pass.now c.note-in-Fetch.new.pass c.args.vault.now
    (g.W.Watch.trace c.args.watch.now) (outflow g.O.Sink c.args.output.now) (g.V.Vault.counts c.args.vault.now) _ fault f.entries f.raised f.place fails)
    (c.fetch.ensures.refused (beat_kind g.B.Beat.passes g.B.Beat.exact) c.look-look.result (outflow g.O.Sink c.args.output.now) f.noted c.in-Fetch.ensures.may.0 c.in-Fetch.ensures.may.1)

pub returns-in-End-clause-acted : goal.returns-in-End-clause-acted
returns-in-End-clause-acted g c =
    let f = looks_on c.args.hall.now c.args.pass.now c.enter_behind-desk.new.pass c.enter_behind-desk.result.0 (g.V.Vault.counts c.args.vault.now) c.requires.rests.at c.enter_behind-desk.ensures.own
    c.enter_behind-desk.ensures.entered c.note.new.pass c.look-look.result (sym c.in_default.is ∙ c.stopped-fault.ensures.0) (rw c.in_default.is at c.note.ensures.noted) c.note.ensures.own
    c.note-in-End.new.pass c.look-look.ensures.0 c.note-in-End.ensures.noted c.note-in-End.ensures.own in
    if_ok_at c.end_and_tell.result _ rounds.Acted _
    (λ done. done_from (kind_of g.V.Vault) (beat_kind g.B.Beat.passes g.B.Beat.exact) c.args.hall.now c.args.pass.now c.note-in-End.new.pass c.args.vault.now (g.W.Watch.trace c.args.watch.now)
    (outflow g.O.Sink c.args.output.now) (g.V.Vault.counts c.args.vault.now) _ (g.V.Vault.counts c.end_and_tell.new.vault) rounds.Acted f.entries f.raised f.place done)
    (c.end_and_tell.ensures.ended (beat_kind g.B.Beat.passes g.B.Beat.exact) c.look-look.result f.noted c.in-End.ensures.may.0 c.in-End.ensures.may.1) c.end_and_tell.ensures.acts

pub returns-in-End-clause-failed : goal.returns-in-End-clause-failed
returns-in-End-clause-failed g c =
    let f = looks_on c.args.hall.now c.args.pass.now c.enter_behind-desk.new.pass c.enter_behind-desk.result.0 (g.V.Vault.counts c.args.vault.now) c.requires.rests.at c.enter_behind-desk.ensures.own
    c.enter_behind-desk.ensures.entered c.note.new.pass c.look-look.result (sym c.in_default.is ∙ c.stopped-fault.ensures.0) (rw c.in_default.is at c.note.ensures.noted) c.note.ensures.own
    c.note-in-End.new.pass c.look-look.ensures.0 c.note-in-End.ensures.noted c.note-in-End.ensures.own in
    if_err c.end_and_tell.result _ _
    (λ fault fails. fails_from (kind_of g.V.Vault) (beat_kind g.B.Beat.passes g.B.Beat.exact) c.args.hall.now c.args.pass.now c.note-in-End.new.pass c.args.vault.now (g.W.Watch.trace c.args.watch.now)
    (outflow g.O.Sink c.args.output.now) (g.V.Vault.counts c.args.vault.now) _ fault f.entries f.raised f.place fails)
    (c.end_and_tell.ensures.refused (beat_kind g.B.Beat.passes g.B.Beat.exact) c.look-look.result f.noted c.in-End.ensures.may.0 c.in-End.ensures.may.1)

pub returns-in-Fetch-clause-stand : goal.returns-in-Fetch-clause-stand
returns-in-Fetch-clause-stand g c =
    let count = c.enter_behind-desk.result.1 in
    made_entered c.args.hall.now c.args.pass.now c.enter_behind-desk.new.pass c.fetch.new.pass c.enter_behind-desk.result.0 c.args.turns.now c.enter_behind-desk.result.1 c.fetch.new.turns c.enter_behind-desk.ensures.entered c.enter_behind-desk.ensures.behind
    (goes_noted c.enter_behind-desk.new.pass c.note.new.pass c.fetch.new.pass _ count c.fetch.new.turns c.note.ensures.noted
    (goes_noted c.note.new.pass c.note-in-Fetch.new.pass c.fetch.new.pass _ count c.fetch.new.turns c.note-in-Fetch.ensures.noted c.fetch.ensures.stand))

pub returns-in-End-clause-stand : goal.returns-in-End-clause-stand
returns-in-End-clause-stand g c =
    let count = c.enter_behind-desk.result.1 in
    made_entered c.args.hall.now c.args.pass.now c.enter_behind-desk.new.pass c.end_and_tell.new.pass c.enter_behind-desk.result.0 c.args.turns.now c.enter_behind-desk.result.1 c.end_and_tell.new.turns c.enter_behind-desk.ensures.entered c.enter_behind-desk.ensures.behind
    (goes_noted c.enter_behind-desk.new.pass c.note.new.pass c.end_and_tell.new.pass _ count c.end_and_tell.new.turns c.note.ensures.noted
    (goes_noted c.note.new.pass c.note-in-End.new.pass c.end_and_tell.new.pass _ count c.end_and_tell.new.turns c.note-in-End.ensures.noted c.end_and_tell.ensures.stand))

pub returns-in-Fetch-clause-over : goal.returns-in-Fetch-clause-over
returns-in-Fetch-clause-over g c = never_over c.fetch.result _ c.fetch.ensures.acts

pub returns-in-End-clause-over : goal.returns-in-End-clause-over
returns-in-End-clause-over g c = never_over c.end_and_tell.result _ c.end_and_tell.ensures.acts

pub enter_behind-desk-requires-clause-own : goal.enter_behind-desk-requires-clause-own
enter_behind-desk-requires-clause-own g c = c.requires.rests.at.driver.own

pub enter_behind-desk-requires-clause-idle : goal.enter_behind-desk-requires-clause-idle
enter_behind-desk-requires-clause-idle g c = c.requires.rests.idle

pub leave-requires-clause-own : goal.leave-requires-clause-own
leave-requires-clause-own g c = c.enter_behind-desk.ensures.own

pub leave-requires-clause-inside : goal.leave-requires-clause-inside
leave-requires-clause-inside g c = c.enter_behind-desk.ensures.entered.enters.inside

pub returns-in-Some-clause-params : goal.returns-in-Some-clause-params
returns-in-Some-clause-params g c = c.requires.params.0

pub returns-in-Some-clause-room : goal.returns-in-Some-clause-room
returns-in-Some-clause-room g c = c.requires.room

pub returns-in-Some-clause-anchors : goal.returns-in-Some-clause-anchors
returns-in-Some-clause-anchors g c = refl

pub returns-in-Some-clause-acted : goal.returns-in-Some-clause-acted
returns-in-Some-clause-acted g c = tt

pub returns-in-Some-clause-over : goal.returns-in-Some-clause-over
returns-in-Some-clause-over g c = tt

pub note-requires-clause-own : goal.note-requires-clause-own
note-requires-clause-own g c = c.enter_behind-desk.ensures.own

pub note-requires-clause-inside : goal.note-requires-clause-inside
note-requires-clause-inside g c = c.enter_behind-desk.ensures.entered.enters.inside

pub leave-requires-in-Over-clause-own : goal.leave-requires-in-Over-clause-own
leave-requires-in-Over-clause-own g c = c.note.ensures.own

pub leave-requires-in-Over-clause-inside : goal.leave-requires-in-Over-clause-inside
leave-requires-in-Over-clause-inside g c = c.note.ensures.noted.notes.inside

pub leave-requires-in-Rest-clause-own : goal.leave-requires-in-Rest-clause-own
leave-requires-in-Rest-clause-own g c = c.note.ensures.own

pub leave-requires-in-Rest-clause-inside : goal.leave-requires-in-Rest-clause-inside
leave-requires-in-Rest-clause-inside g c = c.note.ensures.noted.notes.inside

pub note-requires-in-Fetch-clause-own : goal.note-requires-in-Fetch-clause-own
note-requires-in-Fetch-clause-own g c = c.note.ensures.own

pub note-requires-in-Fetch-clause-inside : goal.note-requires-in-Fetch-clause-inside
note-requires-in-Fetch-clause-inside g c = c.note.ensures.noted.notes.inside

pub note-requires-in-End-clause-own : goal.note-requires-in-End-clause-own
note-requires-in-End-clause-own g c = c.note.ensures.own

pub note-requires-in-End-clause-inside : goal.note-requires-in-End-clause-inside
note-requires-in-End-clause-inside g c = c.note.ensures.noted.notes.inside

pub fetch-requires-clause-params : goal.fetch-requires-clause-params
fetch-requires-clause-params g c κs within = c.requires.params.0

pub fetch-requires-clause-places : goal.fetch-requires-clause-places
fetch-requires-clause-places g c κs within = c.requires.room.asks

pub fetch-requires-clause-room : goal.fetch-requires-clause-room
fetch-requires-clause-room g c κs within = c.requires.room.found

pub end_and_tell-requires-clause-params : goal.end_and_tell-requires-clause-params
end_and_tell-requires-clause-params g c κs within = c.requires.params

pub fetch-requires-clause-whole : goal.fetch-requires-clause-whole
fetch-requires-clause-whole g c κs within = c.requires.whole

pub end_and_tell-requires-clause-whole : goal.end_and_tell-requires-clause-whole
end_and_tell-requires-clause-whole g c κs within = c.requires.whole

pub end_and_tell-requires-clause-goes_on : goal.end_and_tell-requires-clause-goes_on
end_and_tell-requires-clause-goes_on g c κs within = sym c.stopped-fault.ensures.0 ∙ c.in_default.is

pub end_and_tell-requires-clause-room : goal.end_and_tell-requires-clause-room
end_and_tell-requires-clause-room g c κs within = c.requires.room

pub returns-in-Over-clause-params : goal.returns-in-Over-clause-params
returns-in-Over-clause-params g c = c.requires.params.0

pub returns-in-Over-clause-room : goal.returns-in-Over-clause-room
returns-in-Over-clause-room g c = c.requires.room

pub returns-in-Over-clause-anchors : goal.returns-in-Over-clause-anchors
returns-in-Over-clause-anchors g c = c.decide.ensures.anchors

pub returns-in-Over-clause-failed : goal.returns-in-Over-clause-failed
returns-in-Over-clause-failed g c = tt

pub returns-in-Rest-clause-params : goal.returns-in-Rest-clause-params
returns-in-Rest-clause-params g c = c.requires.params.0

pub returns-in-Rest-clause-room : goal.returns-in-Rest-clause-room
returns-in-Rest-clause-room g c = c.requires.room

pub returns-in-Rest-clause-anchors : goal.returns-in-Rest-clause-anchors
returns-in-Rest-clause-anchors g c = c.decide.ensures.anchors

pub returns-in-Rest-clause-over : goal.returns-in-Rest-clause-over
returns-in-Rest-clause-over g c = rested_never _

pub returns-in-Rest-clause-failed : goal.returns-in-Rest-clause-failed
returns-in-Rest-clause-failed g c = tt

pub returns-in-Fetch-clause-params : goal.returns-in-Fetch-clause-params
returns-in-Fetch-clause-params g c = c.fetch.ensures.params

pub returns-in-Fetch-clause-room : goal.returns-in-Fetch-clause-room
returns-in-Fetch-clause-room g c = record { asks = c.fetch.ensures.places; found = c.fetch.ensures.room; writes = c.requires.room.writes }

pub returns-in-Fetch-clause-anchors : goal.returns-in-Fetch-clause-anchors
returns-in-Fetch-clause-anchors g c = c.decide.ensures.anchors

pub returns-in-End-clause-params : goal.returns-in-End-clause-params
returns-in-End-clause-params g c = c.end_and_tell.ensures.params

pub returns-in-End-clause-room : goal.returns-in-End-clause-room
returns-in-End-clause-room g c = c.end_and_tell.ensures.room

pub returns-in-End-clause-anchors : goal.returns-in-End-clause-anchors
returns-in-End-clause-anchors g c = c.decide.ensures.anchors
