use Rattle.std.proofs.Common.{◌≡◌, ◌≤◌, ◌+◌, ◌-◌, ◌∙◌, inl, length, suc, false, true, Ok, Err, ap, arith, refl, subst, sym}
use Rattle.ob_base.specs.Planned.{most_jobs}
use Rattle.ob_cells.specs.Jobs.{Manned}
use Rattle.ob_end.specs.Lifts.{lift_cells, lift_jobs, lift_notes}
use Rattle.ob_ring.proofs.PlanLaws.{seals_none}
use Rattle.ob_recover.specs.Known.{fills_with_lifts, public_of_kept}
use Rattle.ob_schedule.specs.Phases.{end_phases}
use Rattle.ob_schedule.specs.Schedule.{end_lifts, end_notes}
use Rattle.ob_end.specs.EndWrites.{all_seals, end_write_notes, rows_left}
use Rattle.ob_fetch.specs.declared.run.Run.{Run}
use Rattle.ob_fetch.specs.Fetches.{words_since}
use Rattle.ob_serial.specs.declared.vault.EndErr.{EndErr}
use Rattle.ob_serial.specs.declared.vault.EndErr.TheVariants as end
use Rattle.ob_serial.specs.VaultViews.{IsEndFault, IsStoreEnd}
use Rattle.ob_store.specs.Calls.{Notes, Serves, IsStoreFault}
use Rattle.ob_store.specs.Told.{events_of}
use Rattle.ob_twin.specs.Clear.{AreInClear, AreInClearBut}
use Rattle.ob_twin.proofs.Clear.{both_clear, clear_but}
use Rattle.ob_twin.specs.Keyed.{tagging}
use Rattle.ob_seal.specs.Sealing.{Sealing}
use Rattle.ob_twin.specs.Opening.{GatesAre, is_closed_first}
use Rattle.ob_twin.specs.Register.{place_of}
use Rattle.ob_twin.specs.declared.gates.Gates.{Gates}
use Rattle.ob_ring.specs.Ring.{StandsFor}
use Rattle.ob_end.specs.EndRuns.{AreEntriesWritten, EndAnswers, EndDamage, EndDoes, EndDraws, IfEnded, IsAtContent, IsEndUndamaged, LeadsOn, TakeBucketWords, end_err_of, end_writes, seals_for_end, table_ended, standing_at_end}
use Rattle.ob_pads.specs.Seals.{CellsAreSealed}
use Rattle.ob_end.proofs.ActLaws.{damage_closed, damage_made, end_acts, end_moments, few_drawn, further_same, read_moments, sealed_closed, sealed_from, undamaged_closed}
use Rattle.ob_end.proofs.CloseLaws.{close_fault, gates_kept}
use Rattle.ob_end.proofs.EndCases.{answers_closed, at_spent, gates_at, one_more, read_leaves, does_as, does_closed, does_made, if_ended, ready_spent}
use Rattle.ob_end.proofs.EndCases.{seals_closed, seals_ended, serves_closed, serves_ended, draws_closed, draws_made, before_blames, before_fault}
use Rattle.ob_end.proofs.EndStage as stage
use Rattle.ob_end.proofs.Moments.{ends_in_stages, moments_before, moments_closed, moments_ended}
use Rattle.ob_end.specs.Moments.{EndMoments, IsEndMadeButSet}
use Rattle.ob_end.proofs.Spans.{closed_spanned, ended_spanned, only_read, unset_spanned}
use Rattle.ob_stand.specs.Ends.{standing_after}
use Rattle.ob_end.proofs.ScheduledEnds.{front_at, lifts_scheduled}
use Rattle.ob_end.proofs.Stops.{left_onto, lifts_lack, read_left, settled_on, stops_as}
use Rattle.ob_end.proofs.ToldEnds.{cells_are, closed_told, cut_short, has_written, lifts_as, made_told, reads_are, refused_as, short_of}
use Rattle.ob_end.specs.Stops.{IsEpochLeft}
use Rattle.ob_store.specs.Disk.{Image}
use Rattle.ob_twin.proofs.Gating.{closed_of}
use Rattle.ob_store.proofs.Serving.{serves_err}
use Rattle.ob_end.proofs.ending.end.Goals as goal

pub close_epoch-requires-clause-epoch : goal.close_epoch-requires-clause-epoch
close_epoch-requires-clause-epoch g c κs inside =
    let run = c.args.run.now in
    let run1 : Run = record run { spent = true } in
    let mid = c.make_end.new.run in
    let old = g.S.Store.disk c.args.store.now in
    let words = words_since (g.T.Tape.drawn c.args.tape.now) (g.T.Tape.drawn c.make_end.new.tape) in
    let kept = c.make_end.ensures.kept in
    let writes = c.args.writes.now in
    let ready = ready_spent run c.requires.ready in
    let made = c.in-Ok.ensures.made in
    let low = c.requires.keys in
    let short = c.requires.short in
    let may = c.in-Ok.ensures.answers in
    let few = stage.epoch_low run1 mid old writes words kept ready made low short may in
    let same : mid.epoch ≡ run.epoch = ap (λ (m : Run). m.epoch) kept in
    omega (arith, few, same)

pub close_epoch-requires-clause-room : goal.close_epoch-requires-clause-room
close_epoch-requires-clause-room g c κs inside =
    let run = c.args.run.now in
    let run1 : Run = record run { spent = true } in
    let mid = c.make_end.new.run in
    let old = g.S.Store.disk c.args.store.now in
    let words = words_since (g.T.Tape.drawn c.args.tape.now) (g.T.Tape.drawn c.make_end.new.tape) in
    let kept = c.make_end.ensures.kept in
    let writes = c.args.writes.now in
    let ready = ready_spent run c.requires.ready in
    let made = c.in-Ok.ensures.made in
    let low = c.requires.keys in
    let short = c.requires.short in
    let may = c.in-Ok.ensures.answers in
    stage.room_left run1 mid old writes words kept ready made low short may

pub close_epoch-requires-clause-sealed : goal.close_epoch-requires-clause-sealed
close_epoch-requires-clause-sealed g c κs inside =
    let run = c.args.run.now in
    let run1 : Run = record run { spent = true } in
    let mid = c.make_end.new.run in
    let old = g.S.Store.disk c.args.store.now in
    let words = words_since (g.T.Tape.drawn c.args.tape.now) (g.T.Tape.drawn c.make_end.new.tape) in
    let kept = c.make_end.ensures.kept in
    let writes = c.args.writes.now in
    let ready = ready_spent run c.requires.ready in
    let made = c.in-Ok.ensures.made in
    let low = c.requires.keys in
    let short = c.requires.short in
    let may = c.in-Ok.ensures.answers in
    stage.sealed_from run1 mid old writes words kept ready made low short may

pub close_epoch-requires-clause-obeys : goal.close_epoch-requires-clause-obeys
close_epoch-requires-clause-obeys g c κs inside =
    let run = c.args.run.now in
    let run1 : Run = record run { spent = true } in
    let mid = c.make_end.new.run in
    let old = g.S.Store.disk c.args.store.now in
    let words = words_since (g.T.Tape.drawn c.args.tape.now) (g.T.Tape.drawn c.make_end.new.tape) in
    let kept = c.make_end.ensures.kept in
    let writes = c.args.writes.now in
    let ready = ready_spent run c.requires.ready in
    let made = c.in-Ok.ensures.made in
    let low = c.requires.keys in
    let short = c.requires.short in
    let may = c.in-Ok.ensures.answers in
    stage.obeys_left run1 mid old writes words kept ready made low short may

pub close_epoch-requires-clause-told : goal.close_epoch-requires-clause-told
close_epoch-requires-clause-told g c κs inside =
    let mid = c.make_end.new.run in
    let old = g.S.Store.disk c.args.store.now in
    let mids = g.S.Store.disk c.make_end.new.store in
    let kept = c.make_end.ensures.kept in
    λ told.
    let before = c.in-Ok.ensures.serves.goes.told told in
    gates_kept mid.gates.epoch old.cells mids.cells (λ k low. c.make_end.ensures.keeps.cells before k) (subst (λ (x : Gates). GatesAre x.epoch 5 old.cells) (sym (ap (λ (m : Run). m.gates) kept)) (c.requires.told before))

pub returns-in-Err-clause-does : goal.returns-in-Err-clause-does
returns-in-Err-clause-does g c = λ start t seals stands.
    let run = c.args.run.now in
    let mid = c.make_end.new.run in
    let notes = end_write_notes mid.ring (suc run.epoch) in
    does_made c.args.crew.now.lanes (lift_cells run.params start.versions t) (lift_notes run.params start.versions t) notes (is_closed_first run.gates.epoch (place_of (suc run.epoch))) (suc run.epoch) _ _ _ _ c.in-Err.fault
    (c.in-Err.ensures.told start t seals stands)

pub returns-in-Err-clause-stands : goal.returns-in-Err-clause-stands
returns-in-Err-clause-stands g c = λ s was. tt

pub returns-in-Err-clause-images : goal.returns-in-Err-clause-images
returns-in-Err-clause-images g c = λ s was.
    let run = c.args.run.now in
    let mid = c.make_end.new.run in
    let old = g.S.Store.disk c.args.store.now in
    let mids = g.S.Store.disk c.make_end.new.store in
    let words = words_since (g.T.Tape.drawn c.args.tape.now) (g.T.Tape.drawn c.make_end.new.tape) in
    let ws = end_writes run.params c.args.writes.now words run.sealer.generation run.drawn in
    let leaves = read_leaves run.sealer.keys run.params s old mids (g.met.S.Store.only_now c.args.store.now) was.settled was.stands c.make_end.ensures.passes in
    moments_before g.S.Store.disk c.args.crew.now.lanes s ws run mid c.args.store.now c.make_end.new.store c.make_end.new.store c.in-Err.fault leaves
    (unset_spanned g.S.Store.disk run.sealer.keys run.params s (standing_at_end s mid ws) (is_closed_first run.gates.epoch (place_of (suc run.epoch))) (IsEndMadeButSet c.args.crew.now.lanes run) c.args.store.now c.make_end.new.store (only_read old mids c.make_end.ensures.passes) leaves)

pub returns-in-Err-close_epoch-clause-serves : goal.returns-in-Err-close_epoch-clause-serves
returns-in-Err-close_epoch-clause-serves g c =
    let mid = c.make_end.new.run in
    let old = g.S.Store.disk c.args.store.now in
    let mids = g.S.Store.disk c.make_end.new.store in
    let new = g.S.Store.disk c.close_epoch.new.store in
    subst (λ (e : EndErr). Serves {T = Unit {0}} {E = EndErr} IsStoreEnd old new (Err e)) (sym c.end_err.ensures)
    (serves_closed old mids new (mid.epoch + 1) c.in-Err-close_epoch.refused c.in-Ok.ensures.serves c.in-Err-close_epoch.ensures.serves c.in-Err-close_epoch.ensures.faults)

pub returns-in-Err-close_epoch-clause-seals : goal.returns-in-Err-close_epoch-clause-seals
returns-in-Err-close_epoch-clause-seals g c = λ t stands.
    let run = c.args.run.now in
    let run1 : Run = record run { spent = true } in
    let mid = c.make_end.new.run in
    let old = g.S.Store.disk c.args.store.now in
    let words = words_since (g.T.Tape.drawn c.args.tape.now) (g.T.Tape.drawn c.make_end.new.tape) in
    let kept = c.make_end.ensures.kept in
    let writes = c.args.writes.now in
    let ready = ready_spent run c.requires.ready in
    let made = c.in-Ok.ensures.made in
    let low = c.requires.keys in
    let short = c.requires.short in
    let may = c.in-Ok.ensures.answers in
    seals_closed (all_seals mid.ring) (seals_for_end run.params t) run.sealer mid.sealer c.close_epoch.new.sealer c.in-Err-close_epoch.refused c.end_err.result
    (stage.seals_are run1 mid old writes words kept ready made low short may t stands) (stage.same_sealer run1 mid old writes words kept ready made low short may)
    c.in-Err-close_epoch.ensures.seals

pub returns-in-Err-close_epoch-clause-does : goal.returns-in-Err-close_epoch-clause-does
returns-in-Err-close_epoch-clause-does g c = λ start t seals stands.
    let run = c.args.run.now in
    let mid = c.make_end.new.run in
    let old = g.S.Store.disk c.args.store.now in
    let kept = c.make_end.ensures.kept in
    let new = g.S.Store.disk c.close_epoch.new.store in
    let last = c.close_epoch.new.ring in
    let stash = c.close_epoch.ensures.kept in
    let cells = lift_cells run.params start.versions t in
    let notes = lift_notes run.params start.versions t in
    let closes = is_closed_first run.gates.epoch (place_of (suc run.epoch)) in
    let one : mid.epoch + 1 ≡ suc run.epoch = (let same : mid.epoch ≡ run.epoch = ap (λ (m : Run). m.epoch) kept in omega (arith, same)) in
    let same_closes : is_closed_first mid.gates.epoch (place_of (mid.epoch + 1)) ≡ closes = ap (λ (m : Run). is_closed_first m.gates.epoch (place_of (m.epoch + 1))) kept ∙ ap (λ n. is_closed_first run.gates.epoch (place_of n)) (one_more run.epoch) in
    subst (λ (e : EndErr). EndDoes c.args.crew.now.lanes cells notes (end_write_notes last (suc run.epoch)) closes (suc run.epoch) old.seen new.seen (g.W.Watch.trace c.args.watch.now) (g.W.Watch.trace c.close_epoch.new.watch) (Err e))
    (sym c.end_err.ensures)
    (does_closed c.args.crew.now.lanes cells notes (end_write_notes last (suc run.epoch)) closes (suc run.epoch) _ _ _ _ _ _ (mid.epoch + 1) c.in-Err-close_epoch.refused c.in-Err-close_epoch.ensures.faults (c.in-Ok.ensures.told start t seals stands)
    (does_as mid.ring last (mid.epoch + 1) (suc run.epoch) _ closes _ _ _ _ (Err c.in-Err-close_epoch.refused) stash one same_closes c.in-Err-close_epoch.ensures.does))

pub returns-in-Err-close_epoch-clause-stands : goal.returns-in-Err-close_epoch-clause-stands
returns-in-Err-close_epoch-clause-stands g c = λ s was. tt

pub returns-in-Err-close_epoch-clause-images : goal.returns-in-Err-close_epoch-clause-images
returns-in-Err-close_epoch-clause-images g c = λ s was.
    let run = c.args.run.now in
    let run1 : Run = record run { spent = true } in
    let mid = c.make_end.new.run in
    let old = g.S.Store.disk c.args.store.now in
    let mids = g.S.Store.disk c.make_end.new.store in
    let words = words_since (g.T.Tape.drawn c.args.tape.now) (g.T.Tape.drawn c.make_end.new.tape) in
    let kept = c.make_end.ensures.kept in
    let writes = c.args.writes.now in
    let ready = ready_spent run c.requires.ready in
    let made = c.in-Ok.ensures.made in
    let low = c.requires.keys in
    let short = c.requires.short in
    let may = c.in-Ok.ensures.answers in
    let at = at_spent run s old was in
    let keeps = c.make_end.ensures.keeps in
    let passes = c.make_end.ensures.passes in
    let new = g.S.Store.disk c.close_epoch.new.store in
    let last = c.close_epoch.new.ring in
    let stash = c.close_epoch.ensures.kept in
    let ws = end_writes run.params c.args.writes.now words run.sealer.generation run.drawn in
    let then : Run = record mid { gates = c.close_epoch.new.gates; sealer = c.close_epoch.new.sealer; ring = last; sheet = c.close_epoch.new.sheet } in
    let only = g.met.S.Store.only_now c.args.store.now in
    let ending = stage.end run1 mid old writes words kept ready made low short may s at mids keeps passes in
    let closes = c.in-Err-close_epoch.ensures.closes s ending
    (stage.mid_epoch_at run1 mid old writes words kept ready made low short may s at mids keeps passes)
    (stage.tells_mid run1 mid old writes words kept ready made low short may s at mids keeps passes)
    (stage.synced_mid run1 mid old writes words kept ready made low short may s at mids keeps passes)
    (stage.stands_mid run1 mid old writes words kept ready made low short may s at mids keeps passes)
    (stage.is_end run1 mid old writes words kept ready made low short may s at mids keeps passes) in
    let fit = ready.planner in
    let disk = g.S.Store.disk in
    let lanes = c.args.crew.now.lanes in
    let told = c.in-Ok.ensures.told run.ring.metas fit.table (seals_none run.ring.metas) fit.stands in
    let made_then : (x : g.row.S.Denot) → Notes (events_of (end_write_notes mid.ring (mid.epoch + 1))) mids.seen (disk x).seen → IsEndMadeButSet lanes run old.seen (disk x).seen =
    (λ x seen. stage.made_set run1 mid old writes words kept ready made low short may lanes old.seen mids.seen (disk x).seen (g.W.Watch.trace c.args.watch.now) (g.W.Watch.trace c.make_end.new.watch) told seen) in
    let stood_then = (λ (x : g.row.S.Denot). stage.refused_leaves run1 mid old writes words kept ready made low short may s at mids keeps passes (disk x) only) in
    let closed = is_closed_first run.gates.epoch (place_of (suc run.epoch)) in
    let same_closes : is_closed_first mid.gates.epoch (place_of (mid.epoch + 1)) ≡ closed =
    ap (λ (m : Run). is_closed_first m.gates.epoch (place_of (m.epoch + 1))) kept ∙ ap (λ n. is_closed_first run.gates.epoch (place_of n)) (one_more run.epoch) in
    let written = end_write_notes mid.ring (mid.epoch + 1) in
    subst (λ (e : EndErr). EndMoments disk lanes s ws run then c.args.store.now c.close_epoch.new.store (Err e)) (sym c.end_err.ensures)
    (moments_closed disk lanes s ws run then c.args.store.now c.make_end.new.store c.close_epoch.new.store written mid.sealer.keys mid.ring.p ending
    (last.stash.rows ≡ rows_left mid.ring) c.in-Err-close_epoch.refused closes.ends c.in-Err-close_epoch.ensures.rows (stood_then c.close_epoch.new.store)
    (λ rows both. ends_in_stages disk lanes s ws run then c.args.store.now c.make_end.new.store c.close_epoch.new.store written mid.sealer.keys mid.ring.p ending both stood_then
    (λ x. stage.either_as run1 mid old writes words kept ready made low short may s at mids keeps passes new only last stash rows (disk x)) made_then)
    (closed_spanned disk run.sealer.keys mid.sealer.keys run.params mid.ring.p s (standing_at_end s then ws) (standing_after s ending) closed (is_closed_first mid.gates.epoch (place_of (mid.epoch + 1))) c.args.store.now c.make_end.new.store c.close_epoch.new.store
    (ap (λ (m : Run). m.sealer.keys) kept) (stage.mid_p run1 mid old writes words kept ready made low short may) same_closes passes keeps was.tells (IsEndMadeButSet lanes run) (Notes (events_of written)) made_then stood_then
    (last.stash.rows ≡ rows_left mid.ring) (λ rows a b. stage.either_as run1 mid old writes words kept ready made low short may s at mids keeps passes b only last stash rows a) c.in-Err-close_epoch.refused c.in-Err-close_epoch.ensures.rows closes.spans))

pub returns-clause-serves : goal.returns-clause-serves
returns-clause-serves g c =
    let mid = c.make_end.new.run in
    let old = g.S.Store.disk c.args.store.now in
    let mids = g.S.Store.disk c.make_end.new.store in
    let new = g.S.Store.disk c.close_epoch.new.store in
    serves_ended old mids new (mid.epoch + 1) c.in-Ok.ensures.serves c.in-Ok-close_epoch.ensures.serves

pub returns-clause-seals : goal.returns-clause-seals
returns-clause-seals g c = λ t stands.
    let run = c.args.run.now in
    let run1 : Run = record run { spent = true } in
    let mid = c.make_end.new.run in
    let old = g.S.Store.disk c.args.store.now in
    let words = words_since (g.T.Tape.drawn c.args.tape.now) (g.T.Tape.drawn c.make_end.new.tape) in
    let kept = c.make_end.ensures.kept in
    let writes = c.args.writes.now in
    let ready = ready_spent run c.requires.ready in
    let made = c.in-Ok.ensures.made in
    let low = c.requires.keys in
    let short = c.requires.short in
    let may = c.in-Ok.ensures.answers in
    seals_ended (all_seals mid.ring) (seals_for_end run.params t) run.sealer mid.sealer c.close_epoch.new.sealer (stage.seals_are run1 mid old writes words kept ready made low short may t stands) (stage.same_sealer run1 mid old writes words kept ready made low short may)
    c.in-Ok-close_epoch.ensures.seals

pub returns-clause-durable : goal.returns-clause-durable
returns-clause-durable g c =
    λ tells. c.in-Ok-close_epoch.ensures.durable (c.make_end.ensures.keeps.tells tells)

pub returns-clause-does : goal.returns-clause-does
returns-clause-does g c = λ start t seals stands.
    let run = c.args.run.now in
    let mid = c.make_end.new.run in
    let mids = g.S.Store.disk c.make_end.new.store in
    let kept = c.make_end.ensures.kept in
    let last = c.close_epoch.new.ring in
    let stash = c.close_epoch.ensures.kept in
    let closes = is_closed_first run.gates.epoch (place_of (suc run.epoch)) in
    let one : mid.epoch + 1 ≡ suc run.epoch = (let same : mid.epoch ≡ run.epoch = ap (λ (m : Run). m.epoch) kept in omega (arith, same)) in
    let same_closes : is_closed_first mid.gates.epoch (place_of (mid.epoch + 1)) ≡ closes = ap (λ (m : Run). is_closed_first m.gates.epoch (place_of (m.epoch + 1))) kept ∙ ap (λ n. is_closed_first run.gates.epoch (place_of n)) (one_more run.epoch) in
    record {
      mid = mids.seen;
      shown = g.W.Watch.trace c.make_end.new.watch;
      lifts = c.in-Ok.ensures.told start t seals stands;
      rest = does_as mid.ring last (mid.epoch + 1) (suc run.epoch) _ closes _ _ _ _ (Ok tt) stash one same_closes c.in-Ok-close_epoch.ensures.does;
    }

pub returns-clause-ready : goal.returns-clause-ready
returns-clause-ready g c =
    let run = c.args.run.now in
    let run1 : Run = record run { spent = true } in
    let mid = c.make_end.new.run in
    let old = g.S.Store.disk c.args.store.now in
    let words = words_since (g.T.Tape.drawn c.args.tape.now) (g.T.Tape.drawn c.make_end.new.tape) in
    let kept = c.make_end.ensures.kept in
    let writes = c.args.writes.now in
    let ready = ready_spent run c.requires.ready in
    let made = c.in-Ok.ensures.made in
    let low = c.requires.keys in
    let short = c.requires.short in
    let may = c.in-Ok.ensures.answers in
    let last = c.close_epoch.new.ring in
    let stash = c.close_epoch.ensures.kept in
    let some = c.in-Ok-close_epoch.ensures.seals.some in
    stage.ready_then run1 mid old writes words kept ready made low short may last stash c.in-Ok-close_epoch.ensures.rows c.close_epoch.new.gates c.close_epoch.new.sealer c.close_epoch.new.sheet some.generation
    c.in-Ok-close_epoch.ensures.sheet c.make_end.ensures.rooms c.make_end.ensures.words

pub returns-clause-stands : goal.returns-clause-stands
returns-clause-stands g c = λ s was.
    let run = c.args.run.now in
    let run1 : Run = record run { spent = true } in
    let mid = c.make_end.new.run in
    let old = g.S.Store.disk c.args.store.now in
    let mids = g.S.Store.disk c.make_end.new.store in
    let words = words_since (g.T.Tape.drawn c.args.tape.now) (g.T.Tape.drawn c.make_end.new.tape) in
    let kept = c.make_end.ensures.kept in
    let writes = c.args.writes.now in
    let ready = ready_spent run c.requires.ready in
    let made = c.in-Ok.ensures.made in
    let low = c.requires.keys in
    let short = c.requires.short in
    let may = c.in-Ok.ensures.answers in
    let at = at_spent run s old was in
    let keeps = c.make_end.ensures.keeps in
    let passes = c.make_end.ensures.passes in
    let new = g.S.Store.disk c.close_epoch.new.store in
    let last = c.close_epoch.new.ring in
    let stash = c.close_epoch.ensures.kept in
    let only = g.met.S.Store.only_now c.args.store.now in
    let ending = stage.end run1 mid old writes words kept ready made low short may s at mids keeps passes in
    let rows = c.in-Ok-close_epoch.ensures.rows in
    let some = c.in-Ok-close_epoch.ensures.seals.some in
    let closes = c.in-Ok-close_epoch.ensures.closes s ending
    (stage.mid_epoch_at run1 mid old writes words kept ready made low short may s at mids keeps passes)
    (stage.tells_mid run1 mid old writes words kept ready made low short may s at mids keeps passes)
    (stage.synced_mid run1 mid old writes words kept ready made low short may s at mids keeps passes)
    (stage.stands_mid run1 mid old writes words kept ready made low short may s at mids keeps passes)
    (stage.is_end run1 mid old writes words kept ready made low short may s at mids keeps passes) in
    record {
      tells = c.in-Ok-close_epoch.ensures.serves.tells (stage.tells_mid run1 mid old writes words kept ready made low short may s at mids keeps passes);
      settled = c.in-Ok-close_epoch.ensures.durable (stage.tells_mid run1 mid old writes words kept ready made low short may s at mids keeps passes);
      stands = stage.stands_then run1 mid old writes words kept ready made low short may s at mids keeps passes new only last stash rows c.close_epoch.new.sealer some.keys closes.ends.1;
      runs = stage.runs_last run1 mid old writes words kept ready made low short may s at mids keeps passes new only last stash rows c.close_epoch.new.sealer (mid.epoch + 1) mid.params.batches some.generation (ap (λ (m : Run). m.epoch + 1) kept) refl c.in-Ok-close_epoch.ensures.room;
    }

pub returns-clause-images : goal.returns-clause-images
returns-clause-images g c = λ s was.
    let run = c.args.run.now in
    let run1 : Run = record run { spent = true } in
    let mid = c.make_end.new.run in
    let old = g.S.Store.disk c.args.store.now in
    let mids = g.S.Store.disk c.make_end.new.store in
    let words = words_since (g.T.Tape.drawn c.args.tape.now) (g.T.Tape.drawn c.make_end.new.tape) in
    let kept = c.make_end.ensures.kept in
    let writes = c.args.writes.now in
    let ready = ready_spent run c.requires.ready in
    let made = c.in-Ok.ensures.made in
    let low = c.requires.keys in
    let short = c.requires.short in
    let may = c.in-Ok.ensures.answers in
    let at = at_spent run s old was in
    let keeps = c.make_end.ensures.keeps in
    let passes = c.make_end.ensures.passes in
    let new = g.S.Store.disk c.close_epoch.new.store in
    let last = c.close_epoch.new.ring in
    let stash = c.close_epoch.ensures.kept in
    let ws = end_writes run.params c.args.writes.now words run.sealer.generation run.drawn in
    let only = g.met.S.Store.only_now c.args.store.now in
    let ending = stage.end run1 mid old writes words kept ready made low short may s at mids keeps passes in
    let rows = c.in-Ok-close_epoch.ensures.rows in
    let closes = c.in-Ok-close_epoch.ensures.closes s ending
    (stage.mid_epoch_at run1 mid old writes words kept ready made low short may s at mids keeps passes)
    (stage.tells_mid run1 mid old writes words kept ready made low short may s at mids keeps passes)
    (stage.synced_mid run1 mid old writes words kept ready made low short may s at mids keeps passes)
    (stage.stands_mid run1 mid old writes words kept ready made low short may s at mids keeps passes)
    (stage.is_end run1 mid old writes words kept ready made low short may s at mids keeps passes) in
    let then : Run = record mid { gates = c.close_epoch.new.gates; sealer = c.close_epoch.new.sealer; epoch = mid.epoch + 1; left = mid.params.batches; spent = false; ring = last; sheet = c.close_epoch.new.sheet } in
    let fit = ready.planner in
    let disk = g.S.Store.disk in
    let lanes = c.args.crew.now.lanes in
    let told = c.in-Ok.ensures.told run.ring.metas fit.table (seals_none run.ring.metas) fit.stands in
    let made_then : (x : g.row.S.Denot) → Notes (events_of (end_write_notes mid.ring (mid.epoch + 1))) mids.seen (disk x).seen → IsEndMadeButSet lanes run old.seen (disk x).seen =
    (λ x seen. stage.made_set run1 mid old writes words kept ready made low short may lanes old.seen mids.seen (disk x).seen (g.W.Watch.trace c.args.watch.now) (g.W.Watch.trace c.make_end.new.watch) told seen) in
    let stood_then = (λ (x : g.row.S.Denot). stage.refused_leaves run1 mid old writes words kept ready made low short may s at mids keeps passes (disk x) only) in
    let closed = is_closed_first run.gates.epoch (place_of (suc run.epoch)) in
    let same_closes : is_closed_first mid.gates.epoch (place_of (mid.epoch + 1)) ≡ closed =
    ap (λ (m : Run). is_closed_first m.gates.epoch (place_of (m.epoch + 1))) kept ∙ ap (λ n. is_closed_first run.gates.epoch (place_of n)) (one_more run.epoch) in
    let written = end_write_notes mid.ring (mid.epoch + 1) in
    moments_ended disk lanes s ws run then c.args.store.now c.make_end.new.store c.close_epoch.new.store
    (ends_in_stages disk lanes s ws run then c.args.store.now c.make_end.new.store c.close_epoch.new.store written mid.sealer.keys mid.ring.p ending closes.ends.0 stood_then
    (λ x. stage.either_as run1 mid old writes words kept ready made low short may s at mids keeps passes new only last stash rows (disk x)) made_then)
    (ended_spanned disk run.sealer.keys mid.sealer.keys run.params mid.ring.p s (standing_at_end s then ws) (standing_after s ending) closed (is_closed_first mid.gates.epoch (place_of (mid.epoch + 1))) c.args.store.now c.make_end.new.store c.close_epoch.new.store
    (ap (λ (m : Run). m.sealer.keys) kept) (stage.mid_p run1 mid old writes words kept ready made low short may) same_closes passes keeps was.tells (IsEndMadeButSet lanes run) (Notes (events_of written)) made_then stood_then
    (λ a b. stage.either_as run1 mid old writes words kept ready made low short may s at mids keeps passes b only last stash rows a) closes.spans)

pub returns-in-Err-clause-draws : goal.returns-in-Err-clause-draws
returns-in-Err-clause-draws g c = λ t stands.
    draws_made c.args.run.now.params t c.args.run.now.epoch c.args.run.now.drawn (g.T.Tape.drawn c.args.tape.now) (g.T.Tape.drawn c.make_end.new.tape) c.in-Err.fault (c.in-Err.ensures.draws t stands)

pub returns-in-Err-close_epoch-clause-draws : goal.returns-in-Err-close_epoch-clause-draws
returns-in-Err-close_epoch-clause-draws g c = λ t stands.
    let run = c.args.run.now in
    let mid = c.make_end.new.run in
    let old = g.T.Tape.drawn c.args.tape.now in
    let new = g.T.Tape.drawn c.make_end.new.tape in
    subst (λ (e : EndErr). EndDraws run.params t run.epoch run.drawn old new (Err e)) (sym c.end_err.ensures)
    (draws_closed run.params t run.epoch run.drawn old new (mid.epoch + 1) c.in-Err-close_epoch.refused c.in-Err-close_epoch.ensures.faults (c.in-Ok.ensures.draws t stands))

pub returns-clause-draws : goal.returns-clause-draws
returns-clause-draws g c = λ t stands. c.in-Ok.ensures.draws t stands

pub returns-in-Err-clause-scheduled : goal.returns-in-Err-clause-scheduled
returns-in-Err-clause-scheduled g c =
    let run = c.args.run.now in
    let old = g.S.Store.disk c.args.store.now in
    let mids = g.S.Store.disk c.make_end.new.store in
    let fit = c.requires.ready.planner in
    let jobs = lift_jobs run.params run.ring.metas.versions fit.table in
    let cells = lift_cells run.params run.ring.metas.versions fit.table in
    let notes = lift_notes run.params run.ring.metas.versions fit.table in
    let told = made_told c.args.crew.now.lanes cells notes (reads_are jobs) (cells_are jobs) old.seen mids.seen (g.W.Watch.trace c.args.watch.now) (g.W.Watch.trace c.make_end.new.watch) c.in-Err.fault
    (c.in-Err.ensures.told run.ring.metas fit.table (seals_none run.ring.metas) fit.stands) in (
      told.0,
      told.1,
      λ content rs from.
          let row = end_notes run.params (public_of_kept run.params content rs run.epoch run.gates) (fills_with_lifts run.params content rs) in
          let phases = end_phases run.params (public_of_kept run.params content rs run.epoch run.gates) (fills_with_lifts run.params content rs) in
          let same = lifts_scheduled run.params run.sealer.generation run.ring fit.table content rs run.epoch run.gates fit.stands from in (
            lifts_as c.args.crew.now.lanes notes _ phases row told.0 old.seen mids.seen (Err (end.Before c.in-Err.fault)) same
                (told.2 phases row (front_at run.params run.sealer.generation run.ring fit.table content rs run.epoch run.gates fit.stands from)),
            read_left run.sealer.keys (is_closed_first run.gates.epoch (place_of (suc run.epoch))) (suc run.epoch) (length row - length told.0) old mids c.make_end.ensures.passes
                (lifts_lack run.params content rs run.epoch run.gates (fills_with_lifts run.params content rs) from.gate told.0 notes told.3 same)
                (λ tells. closed_of run.gates.epoch 5 (suc run.epoch) old.cells (c.requires.told tells)),
          ),
    )

pub returns-in-Err-close_epoch-clause-scheduled : goal.returns-in-Err-close_epoch-clause-scheduled
returns-in-Err-close_epoch-clause-scheduled g c =
    let run = c.args.run.now in
    let run1 : Run = record run { spent = true } in
    let mid = c.make_end.new.run in
    let old = g.S.Store.disk c.args.store.now in
    let mids = g.S.Store.disk c.make_end.new.store in
    let words = words_since (g.T.Tape.drawn c.args.tape.now) (g.T.Tape.drawn c.make_end.new.tape) in
    let kept = c.make_end.ensures.kept in
    let writes = c.args.writes.now in
    let ready = ready_spent run c.requires.ready in
    let made = c.in-Ok.ensures.made in
    let low = c.requires.keys in
    let short = c.requires.short in
    let may = c.in-Ok.ensures.answers in
    let fit = ready.planner in
    let jobs = lift_jobs run.params run.ring.metas.versions fit.table in
    let cells = lift_cells run.params run.ring.metas.versions fit.table in
    let notes = lift_notes run.params run.ring.metas.versions fit.table in
    let new = g.S.Store.disk c.close_epoch.new.store in
    let closes = is_closed_first run.gates.epoch (place_of (suc run.epoch)) in
    let one : mid.epoch + 1 ≡ suc run.epoch = (let same : mid.epoch ≡ run.epoch = ap (λ (m : Run). m.epoch) kept in omega (arith, same)) in
    let same_closes : is_closed_first mid.gates.epoch (place_of (mid.epoch + 1)) ≡ closes = ap (λ (m : Run). is_closed_first m.gates.epoch (place_of (m.epoch + 1))) kept ∙ ap (λ n. is_closed_first run.gates.epoch (place_of n)) (one_more run.epoch) in
    let lifts_told = c.in-Ok.ensures.told run.ring.metas fit.table (seals_none run.ring.metas) fit.stands in
    let told = cut_short c.args.crew.now.lanes cells notes (reads_are jobs) (cells_are jobs) (end_write_notes mid.ring (suc run.epoch)) (has_written c.args.crew.now.lanes mid.ring (suc run.epoch)) closes (suc run.epoch) old.seen mids.seen new.seen
    (g.W.Watch.trace c.args.watch.now) (g.W.Watch.trace c.make_end.new.watch) (g.W.Watch.trace c.close_epoch.new.watch) lifts_told
    (λ lacking. (i : Image) → new.may_leave i → IsEpochLeft run.sealer.keys closes (suc run.epoch) mids lacking i) (mid.epoch + 1) c.in-Err-close_epoch.refused c.in-Err-close_epoch.ensures.faults
    (short_of c.args.crew.now.lanes cells notes (reads_are jobs) (cells_are jobs) run.sealer.keys (end_write_notes mid.ring (suc run.epoch)) (has_written c.args.crew.now.lanes mid.ring (suc run.epoch)) closes (suc run.epoch) old.seen mids new
    (g.W.Watch.trace c.args.watch.now) (g.W.Watch.trace c.make_end.new.watch) (g.W.Watch.trace c.close_epoch.new.watch) lifts_told c.in-Err-close_epoch.refused
    (does_as mid.ring mid.ring (mid.epoch + 1) (suc run.epoch) _ closes _ _ _ _ (Err c.in-Err-close_epoch.refused) refl one same_closes c.in-Err-close_epoch.ensures.does)
    (stops_as mid.ring _ _ (mid.epoch + 1) (suc run.epoch) _ closes mids new _ _ (Err c.in-Err-close_epoch.refused) (ap (λ (m : Run). m.sealer.keys) kept) one same_closes c.in-Err-close_epoch.ensures.stops)) in (
      told.0,
      told.1,
      λ content rs from.
          let row = end_notes run.params (public_of_kept run.params content rs run.epoch run.gates) (fills_with_lifts run.params content rs) in
          let phases = end_phases run.params (public_of_kept run.params content rs run.epoch run.gates) (fills_with_lifts run.params content rs) in
          let lifts = end_lifts run.params (public_of_kept run.params content rs run.epoch run.gates) (fills_with_lifts run.params content rs) in
          let whole = stage.whole run1 mid old writes words kept ready made low short may content rs from in (
            refused_as c.args.crew.now.lanes lifts phases row told.0 old.seen new.seen (end_err_of c.in-Err-close_epoch.refused) c.end_err.result (sym c.end_err.ensures)
                (lifts_as c.args.crew.now.lanes notes _ phases row told.0 old.seen new.seen (Err (end_err_of c.in-Err-close_epoch.refused)) (lifts_scheduled run.params run.sealer.generation run.ring fit.table content rs run.epoch run.gates fit.stands from)
                (told.2 phases row whole)),
            λ i left. left_onto run.sealer.keys closes (suc run.epoch) (length row - length told.0) old mids c.make_end.ensures.keeps.tells (settled_on old mids c.make_end.ensures.passes c.make_end.ensures.keeps)
                (λ tells k lt. c.make_end.ensures.keeps.cells tells k) i (told.3 row whole.0 i left),
          ),
    )

pub returns-clause-scheduled : goal.returns-clause-scheduled
returns-clause-scheduled g c =
    let run = c.args.run.now in
    let run1 : Run = record run { spent = true } in
    let mid = c.make_end.new.run in
    let old = g.S.Store.disk c.args.store.now in
    let mids = g.S.Store.disk c.make_end.new.store in
    let words = words_since (g.T.Tape.drawn c.args.tape.now) (g.T.Tape.drawn c.make_end.new.tape) in
    let kept = c.make_end.ensures.kept in
    let writes = c.args.writes.now in
    let ready = ready_spent run c.requires.ready in
    let made = c.in-Ok.ensures.made in
    let low = c.requires.keys in
    let short = c.requires.short in
    let may = c.in-Ok.ensures.answers in
    let fit = ready.planner in
    let jobs = lift_jobs run.params run.ring.metas.versions fit.table in
    let cells = lift_cells run.params run.ring.metas.versions fit.table in
    let notes = lift_notes run.params run.ring.metas.versions fit.table in
    let new = g.S.Store.disk c.close_epoch.new.store in
    let closes = is_closed_first run.gates.epoch (place_of (suc run.epoch)) in
    let one : mid.epoch + 1 ≡ suc run.epoch = (let same : mid.epoch ≡ run.epoch = ap (λ (m : Run). m.epoch) kept in omega (arith, same)) in
    let same_closes : is_closed_first mid.gates.epoch (place_of (mid.epoch + 1)) ≡ closes = ap (λ (m : Run). is_closed_first m.gates.epoch (place_of (m.epoch + 1))) kept ∙ ap (λ n. is_closed_first run.gates.epoch (place_of n)) (one_more run.epoch) in
    let told = closed_told c.args.crew.now.lanes cells notes (reads_are jobs) (cells_are jobs) (end_write_notes mid.ring (suc run.epoch)) (has_written c.args.crew.now.lanes mid.ring (suc run.epoch)) closes (suc run.epoch) old.seen mids.seen new.seen
    (g.W.Watch.trace c.args.watch.now) (g.W.Watch.trace c.make_end.new.watch) (g.W.Watch.trace c.close_epoch.new.watch) (c.in-Ok.ensures.told run.ring.metas fit.table (seals_none run.ring.metas) fit.stands)
    (does_as mid.ring mid.ring (mid.epoch + 1) (suc run.epoch) _ closes _ _ _ _ (Ok tt) refl one same_closes c.in-Ok-close_epoch.ensures.does) in
    (told.0, told.1, λ content rs from. (told.2 _ _ (stage.whole run1 mid old writes words kept ready made low short may content rs from), tt))

pub returns-clause-gates : goal.returns-clause-gates
returns-clause-gates g c =
    let run = c.args.run.now in
    c.in-Ok-close_epoch.ensures.gates ∙ gates_at (record run { spent = true }) c.make_end.new.run c.make_end.ensures.kept

pub returns-clause-onward : goal.returns-clause-onward
returns-clause-onward g c = λ kept_content rs from.
    let run = c.args.run.now in
    let run1 : Run = record run { spent = true } in
    let mid = c.make_end.new.run in
    let old = g.S.Store.disk c.args.store.now in
    let words = words_since (g.T.Tape.drawn c.args.tape.now) (g.T.Tape.drawn c.make_end.new.tape) in
    let kept = c.make_end.ensures.kept in
    let writes = c.args.writes.now in
    let ready = ready_spent run c.requires.ready in
    let made = c.in-Ok.ensures.made in
    let low = c.requires.keys in
    let short = c.requires.short in
    let may = c.in-Ok.ensures.answers in
    let last = c.close_epoch.new.ring in
    subst (λ (gates : Gates). LeadsOn run.params run.sealer.generation kept_content rs run.epoch run.gates last gates) (sym (c.in-Ok-close_epoch.ensures.gates ∙ gates_at run1 mid kept))
    (stage.leads_then run1 mid old writes words kept ready made low short may kept_content rs from last c.close_epoch.ensures.kept c.in-Ok-close_epoch.ensures.rows c.close_epoch.ensures.room)

pub returns-in-Err-clause-sealed : goal.returns-in-Err-clause-sealed
returns-in-Err-clause-sealed g c = λ tells. tt

pub returns-in-Err-close_epoch-clause-sealed : goal.returns-in-Err-close_epoch-clause-sealed
returns-in-Err-close_epoch-clause-sealed g c = λ tells.
    let run = c.args.run.now in
    let mid = c.make_end.new.run in
    let last = c.close_epoch.new.sealer in
    let old = (g.S.Store.disk c.args.store.now).cells in
    let mids = (g.S.Store.disk c.make_end.new.store).cells in
    let new = (g.S.Store.disk c.close_epoch.new.store).cells in
    subst (λ (e : EndErr). IfEnded (CellsAreSealed run.sealer last old new) (Err e)) (sym c.end_err.ensures)
    (sealed_closed _ _ c.in-Err-close_epoch.refused (sealed_from run.sealer mid.sealer last old mids new (ap (λ (m : Run). m.sealer) c.make_end.ensures.kept) (c.make_end.ensures.keeps.cells tells))
    (c.in-Err-close_epoch.ensures.sealed (c.make_end.ensures.keeps.tells tells)))

pub returns-clause-sealed : goal.returns-clause-sealed
returns-clause-sealed g c = λ tells.
    let run = c.args.run.now in
    let mid = c.make_end.new.run in
    let old = (g.S.Store.disk c.args.store.now).cells in
    let mids = (g.S.Store.disk c.make_end.new.store).cells in
    let new = (g.S.Store.disk c.close_epoch.new.store).cells in
    sealed_from run.sealer mid.sealer c.close_epoch.new.sealer old mids new (ap (λ (m : Run). m.sealer) c.make_end.ensures.kept) (c.make_end.ensures.keeps.cells tells)
    (c.in-Ok-close_epoch.ensures.sealed (c.make_end.ensures.keeps.tells tells))

pub returns-in-Err-clause-moments : goal.returns-in-Err-clause-moments
returns-in-Err-clause-moments g c = read_moments (g.S.Store.disk c.args.store.now) (g.S.Store.disk c.make_end.new.store) c.make_end.ensures.passes

pub returns-in-Err-close_epoch-clause-moments : goal.returns-in-Err-close_epoch-clause-moments
returns-in-Err-close_epoch-clause-moments g c = end_moments (g.S.Store.disk c.args.store.now) (g.S.Store.disk c.make_end.new.store) (g.S.Store.disk c.close_epoch.new.store) c.make_end.ensures.passes c.close_epoch.ensures.moments

pub returns-clause-moments : goal.returns-clause-moments
returns-clause-moments g c = end_moments (g.S.Store.disk c.args.store.now) (g.S.Store.disk c.make_end.new.store) (g.S.Store.disk c.close_epoch.new.store) c.make_end.ensures.passes c.close_epoch.ensures.moments

pub returns-in-Err-clause-serves : goal.returns-in-Err-clause-serves
returns-in-Err-clause-serves g c = serves_err IsStoreFault IsStoreEnd _ _ c.in-Err.fault (end.Before c.in-Err.fault) (before_blames c.in-Err.fault) c.in-Err.ensures.serves

pub returns-in-Err-clause-faults : goal.returns-in-Err-clause-faults
returns-in-Err-clause-faults g c = before_fault (c.args.run.now.epoch + 1) c.in-Err.fault c.in-Err.ensures.faults

-- ---- the end may be made

pub make_end-requires-clause-ready : goal.make_end-requires-clause-ready
make_end-requires-clause-ready g c κs within = ready_spent c.args.run.now c.requires.ready

pub make_end-requires-clause-crew : goal.make_end-requires-clause-crew
make_end-requires-clause-crew g c κs within = c.requires.goes_on.crew

pub make_end-requires-clause-drawn : goal.make_end-requires-clause-drawn
make_end-requires-clause-drawn g c κs within = c.requires.goes_on.drawn

pub make_end-requires-clause-small : goal.make_end-requires-clause-small
make_end-requires-clause-small g c κs within = c.requires.goes_on.few

pub make_end-requires-clause-few : goal.make_end-requires-clause-few
make_end-requires-clause-few g c κs within = c.requires.few

pub make_end-requires-clause-keys : goal.make_end-requires-clause-keys
make_end-requires-clause-keys g c κs within = c.requires.keys

pub make_end-requires-clause-short : goal.make_end-requires-clause-short
make_end-requires-clause-short g c κs within = c.requires.short

pub make_end-requires-clause-index : goal.make_end-requires-clause-index
make_end-requires-clause-index g c κs within = c.requires.index

pub close_epoch-requires-clause-none_out : goal.close_epoch-requires-clause-none_out
close_epoch-requires-clause-none_out g c κs inside = (let none = c.requires.goes_on.none_out in let out = c.make_end.ensures.serves.out in omega arith)

-- ---- what stays of the tape and of the run

pub returns-in-Err-clause-generation : goal.returns-in-Err-clause-generation
returns-in-Err-clause-generation g c = c.make_end.ensures.generation

pub returns-in-Err-clause-drawn : goal.returns-in-Err-clause-drawn
returns-in-Err-clause-drawn g c = c.make_end.ensures.drawn

pub returns-in-Err-clause-crew : goal.returns-in-Err-clause-crew
returns-in-Err-clause-crew g c = c.make_end.ensures.crew

pub returns-in-Err-clause-index : goal.returns-in-Err-clause-index
returns-in-Err-clause-index g c = c.make_end.ensures.index

pub returns-in-Err-clause-params : goal.returns-in-Err-clause-params
returns-in-Err-clause-params g c = ap (λ (r : Run). r.params) c.make_end.ensures.kept

pub returns-in-Err-close_epoch-clause-generation : goal.returns-in-Err-close_epoch-clause-generation
returns-in-Err-close_epoch-clause-generation g c = c.make_end.ensures.generation

pub returns-in-Err-close_epoch-clause-drawn : goal.returns-in-Err-close_epoch-clause-drawn
returns-in-Err-close_epoch-clause-drawn g c = c.make_end.ensures.drawn

pub returns-in-Err-close_epoch-clause-crew : goal.returns-in-Err-close_epoch-clause-crew
returns-in-Err-close_epoch-clause-crew g c = c.make_end.ensures.crew

pub returns-in-Err-close_epoch-clause-index : goal.returns-in-Err-close_epoch-clause-index
returns-in-Err-close_epoch-clause-index g c = c.make_end.ensures.index

pub returns-in-Err-close_epoch-clause-params : goal.returns-in-Err-close_epoch-clause-params
returns-in-Err-close_epoch-clause-params g c = ap (λ (r : Run). r.params) c.make_end.ensures.kept

pub returns-clause-generation : goal.returns-clause-generation
returns-clause-generation g c = c.make_end.ensures.generation

pub returns-clause-drawn : goal.returns-clause-drawn
returns-clause-drawn g c = c.make_end.ensures.drawn

pub returns-clause-crew : goal.returns-clause-crew
returns-clause-crew g c = c.make_end.ensures.crew

pub returns-clause-index : goal.returns-clause-index
returns-clause-index g c = c.make_end.ensures.index

pub returns-clause-params : goal.returns-clause-params
returns-clause-params g c = ap (λ (r : Run). r.params) c.make_end.ensures.kept

-- ---- what is answered, counted and kept, and the act

pub returns-in-Err-clause-answered : goal.returns-in-Err-clause-answered
returns-in-Err-clause-answered g c =
    let run = c.args.run.now in
    let at = c.in-Err.ensures in
    record {
      answers = at.answers;
      damage = λ start t seals stands tells.
          damage_made run.sealer.keys run.params start.versions t (g.S.Store.disk c.args.store.now).cells (g.S.Store.disk c.make_end.new.store).cells c.in-Err.fault (c.make_end.ensures.keeps.cells tells) (at.damage start t seals stands tells);
      undamaged = λ s was. at.undamaged s (at_spent run s (g.S.Store.disk c.args.store.now) was);
    }

pub returns-in-Err-clause-counts : goal.returns-in-Err-clause-counts
returns-in-Err-clause-counts g c =
    let kept = c.make_end.ensures.kept in
    record { served = tt; refused = (ap (λ (r : Run). r.epoch) kept, ap (λ (r : Run). r.left) kept, ap (λ (r : Run). r.spent) kept) }

pub returns-in-Err-clause-goes_on : goal.returns-in-Err-clause-goes_on
returns-in-Err-clause-goes_on g c = tt

pub returns-in-Err-clause-tables : goal.returns-in-Err-clause-tables
returns-in-Err-clause-tables g c = record { table = λ t stands. tt; entries = tt; filled = λ t stands. tt; content = tt }

pub returns-in-Err-clause-seals : goal.returns-in-Err-clause-seals
returns-in-Err-clause-seals g c = λ t stands.
    let same = ap (λ (r : Run). r.sealer) c.make_end.ensures.kept in
    record { all = tt; some = further_same (seals_for_end c.args.run.now.params t) c.args.run.now.sealer c.make_end.new.run.sealer same }

pub returns-in-Err-clause-act : goal.returns-in-Err-clause-act
returns-in-Err-clause-act g c = λ tells.
    let run = c.args.run.now in
    let table = c.requires.ready.ready.table in
    let serves = returns-in-Err-clause-serves g c in
    end_acts (g.S.Store.disk c.args.store.now) (g.S.Store.disk c.make_end.new.store) (g.met.S.Store.only_now c.args.store.now) run.sealer c.make_end.new.run.sealer serves.goes tells (returns-in-Err-clause-seals g c table.0 table.1).some
    (returns-in-Err-clause-moments g c) (Err (end.Before c.in-Err.fault)) (returns-in-Err-clause-sealed g c (serves.goes.told tells))
    (λ cell low. inl (inl (c.make_end.ensures.keeps.cells (serves.goes.told tells) cell)))

pub returns-in-Err-close_epoch-clause-answered : goal.returns-in-Err-close_epoch-clause-answered
returns-in-Err-close_epoch-clause-answered g c =
    let run = c.args.run.now in
    let words = words_since (g.T.Tape.drawn c.args.tape.now) (g.T.Tape.drawn c.make_end.new.tape) in
    let ws = end_writes run.params c.args.writes.now words run.sealer.generation run.drawn in
    let image = (g.S.Store.disk c.close_epoch.new.store).cells in
    let next = c.make_end.new.run.epoch + 1 in
    let refused = c.in-Err-close_epoch.refused in
    let faults = c.in-Err-close_epoch.ensures.faults in
    record {
      answers = λ t stands.
          subst (λ (e : EndErr). EndAnswers run.params t run.epoch run.drawn run.sealer.next ws (Err e)) (sym c.end_err.ensures)
          (answers_closed run.params t run.epoch run.drawn run.sealer.next next ws refused (c.in-Ok.ensures.answers t stands) faults);
      damage = λ start t seals stands tells.
          subst (λ (e : EndErr). EndDamage run.sealer.keys run.params start.versions image t (Err e)) (sym c.end_err.ensures) (damage_closed run.sealer.keys run.params start.versions t image next refused faults);
      undamaged = λ s was. subst (λ (e : EndErr). IsEndUndamaged (Err e)) (sym c.end_err.ensures) (undamaged_closed next refused faults);
    }

pub returns-in-Err-close_epoch-clause-counts : goal.returns-in-Err-close_epoch-clause-counts
returns-in-Err-close_epoch-clause-counts g c =
    let kept = c.make_end.ensures.kept in
    record { served = tt; refused = (ap (λ (r : Run). r.epoch) kept, ap (λ (r : Run). r.left) kept, ap (λ (r : Run). r.spent) kept) }

pub returns-in-Err-close_epoch-clause-goes_on : goal.returns-in-Err-close_epoch-clause-goes_on
returns-in-Err-close_epoch-clause-goes_on g c = tt

pub returns-in-Err-close_epoch-clause-tables : goal.returns-in-Err-close_epoch-clause-tables
returns-in-Err-close_epoch-clause-tables g c =
    let run = c.args.run.now in
    let run1 : Run = record run { spent = true } in
    let mid = c.make_end.new.run in
    let old = g.S.Store.disk c.args.store.now in
    let words = words_since (g.T.Tape.drawn c.args.tape.now) (g.T.Tape.drawn c.make_end.new.tape) in
    let kept = c.make_end.ensures.kept in
    let writes = c.args.writes.now in
    let ready = ready_spent run c.requires.ready in
    let made = c.in-Ok.ensures.made in
    let low = c.requires.keys in
    let short = c.requires.short in
    let may = c.in-Ok.ensures.answers in
    let last = c.close_epoch.new.ring in
    let same = c.close_epoch.ensures.kept in
    let refused = c.in-Err-close_epoch.refused in
    let ws = end_writes run.params writes words run.sealer.generation run.drawn in
    record {
      table = λ t stands.
          subst (λ (e : EndErr). IfEnded (StandsFor last (table_ended run.params t ws)) (Err e)) (sym c.end_err.ensures)
          (if_ended (StandsFor last (table_ended run.params t ws)) refused (stage.table_last run1 mid old writes words kept ready made low short may last same t stands));
      entries =
          subst (λ (e : EndErr). IfEnded (AreEntriesWritten ws run.ring last) (Err e)) (sym c.end_err.ensures) (if_ended (AreEntriesWritten ws run.ring last) refused (stage.entries_last run1 mid old writes words kept ready made low short may last same));
      filled = λ t stands.
          subst (λ (e : EndErr). IfEnded (TakeBucketWords run.params t words run.sealer.generation run.sealer.next run.ring last) (Err e)) (sym c.end_err.ensures)
          (if_ended (TakeBucketWords run.params t words run.sealer.generation run.sealer.next run.ring last) refused (stage.filled_last run1 mid old writes words kept ready made low short may last same t stands));
      content =
          subst (λ (e : EndErr). IfEnded (IsAtContent run.params last) (Err e)) (sym c.end_err.ensures)
          (sealed_closed ((last.stash).rows ≡ rows_left mid.ring) (IsAtContent run.params last) refused (λ rows. stage.content_last run1 mid old writes words kept ready made low short may last same rows) c.in-Err-close_epoch.ensures.rows);
    }

pub returns-in-Err-close_epoch-clause-act : goal.returns-in-Err-close_epoch-clause-act
returns-in-Err-close_epoch-clause-act g c = λ tells.
    let run = c.args.run.now in
    let new = g.S.Store.disk c.close_epoch.new.store in
    let table = c.requires.ready.ready.table in
    let serves = returns-in-Err-close_epoch-clause-serves g c in
    end_acts (g.S.Store.disk c.args.store.now) (g.S.Store.disk c.close_epoch.new.store) (g.met.S.Store.only_now c.args.store.now) run.sealer c.close_epoch.new.sealer serves.goes tells (returns-in-Err-close_epoch-clause-seals g c table.0 table.1).some
    (returns-in-Err-close_epoch-clause-moments g c) (Err c.end_err.result) (returns-in-Err-close_epoch-clause-sealed g c (serves.goes.told tells))
    (clear_but (tagging run.sealer.keys) (g.S.Store.disk c.args.store.now).cells (g.S.Store.disk c.make_end.new.store).cells new.cells (λ cell low. inl (c.make_end.ensures.keeps.cells (serves.goes.told tells) cell)) new.seen
    (subst (λ (s : Sealing). AreInClearBut (tagging s.keys) new.seen (g.S.Store.disk c.make_end.new.store).cells new.cells) (ap (λ (r : Run). r.sealer) c.make_end.ensures.kept) (c.in-Err-close_epoch.ensures.clear tells)))

pub returns-clause-answered : goal.returns-clause-answered
returns-clause-answered g c = record { answers = c.in-Ok.ensures.answers; damage = λ start t seals stands tells. tt; undamaged = λ s was. tt }

pub returns-clause-counts : goal.returns-clause-counts
returns-clause-counts g c =
    let kept = c.make_end.ensures.kept in
    let same : c.make_end.new.run.epoch ≡ c.args.run.now.epoch = ap (λ (r : Run). r.epoch) kept in
    record { served = (omega (arith, same), ap (λ (r : Run). r.params.batches) kept, refl); refused = tt }

pub returns-clause-goes_on : goal.returns-clause-goes_on
returns-clause-goes_on g c =
    let run = c.args.run.now in
    let was = c.requires.goes_on in
    let fit = c.requires.ready.planner in
    let kept = c.make_end.ensures.kept in
    let generation = (returns-clause-seals g c fit.table fit.stands).some.generation in
    let draws = c.in-Ok.ensures.draws fit.table fit.stands in
    record {
      none_out = omega (arith, was.none_out, (returns-clause-serves g c).out);
      ready = (returns-clause-ready g c).ready;
      serves = refl;
      crew = subst (λ (m : Manned). most_jobs c.make_end.new.run.params ≤ m.jobs) (sym c.make_end.ensures.crew) (subst (λ (r : Run). most_jobs r.params ≤ c.args.crew.now.jobs) (sym kept) was.crew);
      generation = c.make_end.ensures.generation ∙ was.generation ∙ sym generation;
      drawn = c.make_end.ensures.drawn;
      few = few_drawn run.params fit.table run.epoch run.drawn run.sealer.next _ c.make_end.new.run.drawn (g.T.Tape.drawn c.args.tape.now) (g.T.Tape.drawn c.make_end.new.tape) (c.in-Ok.ensures.answers fit.table fit.stands) draws was.drawn c.make_end.ensures.drawn;
    }

pub returns-clause-tables : goal.returns-clause-tables
returns-clause-tables g c =
    let run = c.args.run.now in
    let run1 : Run = record run { spent = true } in
    let mid = c.make_end.new.run in
    let old = g.S.Store.disk c.args.store.now in
    let words = words_since (g.T.Tape.drawn c.args.tape.now) (g.T.Tape.drawn c.make_end.new.tape) in
    let kept = c.make_end.ensures.kept in
    let writes = c.args.writes.now in
    let ready = ready_spent run c.requires.ready in
    let made = c.in-Ok.ensures.made in
    let low = c.requires.keys in
    let short = c.requires.short in
    let may = c.in-Ok.ensures.answers in
    let last = c.close_epoch.new.ring in
    let same = c.close_epoch.ensures.kept in
    record {
      table = λ t stands. stage.table_last run1 mid old writes words kept ready made low short may last same t stands;
      entries = stage.entries_last run1 mid old writes words kept ready made low short may last same;
      filled = λ t stands. stage.filled_last run1 mid old writes words kept ready made low short may last same t stands;
      content = stage.content_last run1 mid old writes words kept ready made low short may last same c.in-Ok-close_epoch.ensures.rows;
    }

pub returns-clause-act : goal.returns-clause-act
returns-clause-act g c = λ tells.
    let run = c.args.run.now in
    let new = g.S.Store.disk c.close_epoch.new.store in
    let table = c.requires.ready.ready.table in
    let serves = returns-clause-serves g c in
    end_acts (g.S.Store.disk c.args.store.now) (g.S.Store.disk c.close_epoch.new.store) (g.met.S.Store.only_now c.args.store.now) run.sealer c.close_epoch.new.sealer serves.goes tells (returns-clause-seals g c table.0 table.1).some
    (returns-clause-moments g c) (Ok tt) (returns-clause-sealed g c (serves.goes.told tells))
    (both_clear (tagging run.sealer.keys) (g.S.Store.disk c.args.store.now).cells (g.S.Store.disk c.make_end.new.store).cells new.cells (λ cell low. inl (c.make_end.ensures.keeps.cells (serves.goes.told tells) cell))
    (subst (λ (s : Sealing). AreInClear (tagging s.keys) (g.S.Store.disk c.make_end.new.store).cells new.cells) (ap (λ (r : Run). r.sealer) c.make_end.ensures.kept) (c.in-Ok-close_epoch.ensures.clear tells)))

-- ---- what it answers

pub returns-in-Err-close_epoch-clause-faults : goal.returns-in-Err-close_epoch-clause-faults
returns-in-Err-close_epoch-clause-faults g c =
    subst (IsEndFault (c.args.run.now.epoch + 1)) (sym c.end_err.ensures)
    (subst (λ n. IsEndFault n (end_err_of c.in-Err-close_epoch.refused)) (ap (λ (r : Run). r.epoch + 1) c.make_end.ensures.kept) (close_fault (c.make_end.new.run.epoch + 1) c.in-Err-close_epoch.refused c.in-Err-close_epoch.ensures.faults))

pub returns-clause-told : goal.returns-clause-told
returns-clause-told g c = λ told. c.in-Ok-close_epoch.ensures.tell (c.in-Ok.ensures.serves.tells told)
