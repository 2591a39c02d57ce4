use Rattle.std.proofs.Common.{◌≡◌, true, ◌<◌, ◌≤◌, ◌+◌, ◌-◌, ◌%◌, ◌^◌, ℕ, suc, List, [], ◌∷◌, ◌++◌, None, Option, length, Result, Ok, Err, refl, ap, sym, subst, ◌∙◌, arith, inl}
use Rattle.std.proofs.lemmas.List.{length-take-le}
use Rattle.ob_base.specs.declared.fault.Fault.{Fault}
use Rattle.ob_base.specs.declared.fault.Fault.TheVariants.{StoreFault, Worn}
use Rattle.ob_base.specs.declared.params.Params.{Params}
use Rattle.ob_base.specs.Layout.{log_cell, record_cells}
use Rattle.ob_base.specs.Planned.{most_jobs}
use Rattle.ob_cells.specs.Jobs.{Manned}
use Rattle.ob_log.proofs.AppendLaws.{within_none}
use Rattle.ob_log.specs.Appends.{append_notes}
use Rattle.ob_recover.specs.Repeats.{asked_of_record, batch_cells, repeated_notes}
use Rattle.ob_pads.specs.Seals.{CellsAreSealed}
use Rattle.ob_ring.specs.Ring.{Kept}
use Rattle.ob_stand.specs.Stands.{OneOf, with_record}
use Rattle.ob_log.specs.Appends.{IsWornOut}
use Rattle.ob_store.specs.Calls.{IsStoreFault}
use Rattle.ob_store.specs.Disk.{Image}
use Rattle.ob_recover.proofs.Telling.{row_step}
use Rattle.ob_store.proofs.Events.{none_noted}
use Rattle.ob_store.proofs.Serving.{goes_same, serves_then}
use Rattle.ob_store.proofs.Showing.{shows_none}
use Rattle.ob_store.specs.Told.{TellsFirst}
use Rattle.ob_tables.specs.Kept.{Held}
use Rattle.ob_fetch.proofs.ActLaws.{fetch_acts}
use Rattle.ob_fetch.proofs.AnswerLaws.{item_got}
use Rattle.ob_fetch.proofs.FetchLaws.{answers_as, answers_refused, begun_leaves, begun_now, cells_same, does_refused, draws_refused, drawn_many, enough_left, fetch_fault, left_for, logged_first}
use Rattle.ob_fetch.proofs.FetchLaws.{worn_for, leaves_none, leaves_read, moves_as, next_is, not_worn, settled_then, stages_logged, stages_refused, tells_as, value_stood, within_next, within_then, written_still}
use Rattle.ob_fetch.proofs.StageLaws.{append_told, open_short, record_stages, stages_begun, stages_next}
use Rattle.ob_fetch.proofs.ScheduleLaws.{cut_scheduled, batch_room, plans_as, plans_more, begun_shown, shown_begun, shown_well}
use Rattle.ob_fetch.proofs.NextLaws.{answers_then, refused_then, runs_as, runs_next, stands_as, stands_then}
use Rattle.ob_fetch.specs.Fetches.{AreMapValues, FetchAnswers, FetchDraws, FetchStands, IsFetchRefusal, values_asked, next_batch, record_next, words_since, FetchDoes}
use Rattle.ob_fetch.specs.declared.run.Run.{Run}
use Rattle.ob_fetch.proofs.fetching.fetch.Goals as goal

-- ---- worn

pub returns-then-is_worn-clause-serves : goal.returns-then-is_worn-clause-serves
returns-then-is_worn-clause-serves g c = record { goes = goes_same (g.S.Store.disk c.args.store.now); out = omega arith; tells = tt; cause = λ blamed. absurd blamed }

pub returns-then-is_worn-clause-scheduled : goal.returns-then-is_worn-clause-scheduled
returns-then-is_worn-clause-scheduled g c =
    ([], shows_none (g.W.Watch.trace c.args.watch.now), refl, λ content rs was many. row_step c.args.crew.now.lanes [] (g.S.Store.disk c.args.store.now).seen (g.S.Store.disk c.args.store.now).seen tt (none_noted (g.S.Store.disk c.args.store.now).seen))

pub returns-then-is_worn-clause-wears : goal.returns-then-is_worn-clause-wears
returns-then-is_worn-clause-wears g c = record { worn = ((λ worn. worn_for c.args.run.now _ c.if-is_worn.true c.is_worn.ensures), (λ worn. tt)); idle = λ worn. (refl, refl, refl, refl) }

pub returns-then-is_worn-clause-keeps : goal.returns-then-is_worn-clause-keeps
returns-then-is_worn-clause-keeps g c = record { kept = refl; words = refl; fit = λ fit. tt }

pub returns-then-is_worn-clause-counts : goal.returns-then-is_worn-clause-counts
returns-then-is_worn-clause-counts g c = record { served = tt; refused = (refl, refl, refl) }

pub returns-then-is_worn-clause-goes_on : goal.returns-then-is_worn-clause-goes_on
returns-then-is_worn-clause-goes_on g c = tt

pub returns-then-is_worn-clause-within : goal.returns-then-is_worn-clause-within
returns-then-is_worn-clause-within g c = within_none _ _ (g.S.Store.disk c.args.store.now)

pub returns-then-is_worn-clause-act : goal.returns-then-is_worn-clause-act
returns-then-is_worn-clause-act g c = λ tells.
    let run = c.args.run.now in
    let old = g.S.Store.disk c.args.store.now in
    fetch_acts run.params (suc run.epoch % 2) (next_batch run) old old (g.met.S.Store.only_now c.args.store.now) run.sealer run.sealer (goes_same old) tells (record { keys = refl; generation = refl; on = omega arith; within = omega arith })
    (returns-then-is_worn-clause-within g c) c.args.out.now (Err (Worn (2 ^ 62))) tt

pub returns-then-is_worn-clause-standing : goal.returns-then-is_worn-clause-standing
returns-then-is_worn-clause-standing g c = record {
  stands = λ s was. tt;
  images = λ s was. leaves_none c.args.run.now s _ (g.S.Store.disk c.args.store.now) (g.met.S.Store.only_now c.args.store.now) was;
  stages = λ s was. refl;
}

-- ---- the conditions of the calls

pub read_batch-requires-clause-asks : goal.read_batch-requires-clause-asks
read_batch-requires-clause-asks g c κs within = c.requires.whole ∙ ap (λ (q : Params). q.places) (sym c.requires.goes_on.ready.params)

pub read_batch-requires-clause-words : goal.read_batch-requires-clause-words
read_batch-requires-clause-words g c κs within =
    let room = c.begin_batch.ensures.room in
    let most = c.requires.goes_on.ready.words in
    ap length c.front.ensures ∙ length-take-le c.args.run.now.params.places c.begin_batch.new.words.items (omega arith) ∙ ap (λ (q : Params). q.places) (sym c.requires.goes_on.ready.params)

pub read_batch-requires-clause-keys_low : goal.read_batch-requires-clause-keys_low
read_batch-requires-clause-keys_low g c κs within =
    λ i k is. subst (λ (q : Params). k < q.keys) (sym c.requires.goes_on.ready.params) (c.requires.keys i k (item_got c.args.asks.now i k is))

pub read_batch-requires-clause-stands : goal.read_batch-requires-clause-stands
read_batch-requires-clause-stands g c κs within = c.requires.goes_on.ready.table

pub read_batch-requires-clause-jobs : goal.read_batch-requires-clause-jobs
read_batch-requires-clause-jobs g c κs within =
    let ps = sym c.requires.goes_on.ready.params in (c.requires.goes_on.ready.rooms.0 ∙ ap most_jobs ps, c.requires.goes_on.ready.rooms.1 ∙ ap (λ (q : Params). q.places) ps)

pub read_batch-requires-clause-crew : goal.read_batch-requires-clause-crew
read_batch-requires-clause-crew g c κs within = subst (λ (q : Params). most_jobs q ≤ c.args.crew.now.jobs) (sym c.requires.goes_on.ready.params) c.requires.goes_on.crew

pub begin_batch-requires-clause-keys_low : goal.begin_batch-requires-clause-keys_low
begin_batch-requires-clause-keys_low g c =
    λ i k is. c.requires.keys i k (item_got c.args.asks.now i k is)

pub begin_batch-requires-clause-keys_apart : goal.begin_batch-requires-clause-keys_apart
begin_batch-requires-clause-keys_apart g c =
    λ i j k a b. c.requires.distinct i j k (item_got c.args.asks.now i k a) (item_got c.args.asks.now j k b)

-- ---- refused while the batch was begun

pub returns-in-Err-clause-serves : goal.returns-in-Err-clause-serves
returns-in-Err-clause-serves g c = c.in-Err.ensures.serves

pub returns-in-Err-clause-faults : goal.returns-in-Err-clause-faults
returns-in-Err-clause-faults g c = subst IsFetchRefusal (sym c.in-Err.ensures.faults) refl

pub returns-in-Err-clause-draws : goal.returns-in-Err-clause-draws
returns-in-Err-clause-draws g c =
    let refused : Err c.in-Err.fault ≡ Err (StoreFault None) = ap Err c.in-Err.ensures.faults in
    subst (λ (x : Result (Unit {0}) Fault). FetchDraws c.args.run.now.params.places (g.T.Tape.drawn c.args.tape.now) (g.T.Tape.drawn c.begin_batch.new.tape) x) (sym refused) c.begin_batch.ensures.draws

pub returns-in-Err-clause-drawn : goal.returns-in-Err-clause-drawn
returns-in-Err-clause-drawn g c = ap (λ (n : ℕ). n + c.args.run.now.params.places) c.requires.goes_on.drawn ∙ sym (drawn_many c.args.run.now.params.places _ _ c.begin_batch.ensures.draws)

pub returns-in-Err-clause-seals : goal.returns-in-Err-clause-seals
returns-in-Err-clause-seals g c = c.in-Err.ensures.seals

pub returns-in-Err-clause-sealed : goal.returns-in-Err-clause-sealed
returns-in-Err-clause-sealed g c = λ tells. tt

pub returns-in-Err-clause-moves : goal.returns-in-Err-clause-moves
returns-in-Err-clause-moves g c = tt

pub returns-in-Err-clause-answers : goal.returns-in-Err-clause-answers
returns-in-Err-clause-answers g c = tt

pub returns-in-Err-clause-durable : goal.returns-in-Err-clause-durable
returns-in-Err-clause-durable g c = λ tells. tt

pub returns-in-Err-clause-onward : goal.returns-in-Err-clause-onward
returns-in-Err-clause-onward g c = λ content rs was many. tt

pub returns-in-Err-clause-value : goal.returns-in-Err-clause-value
returns-in-Err-clause-value g c =
    let refused : Err c.in-Err.fault ≡ Err (StoreFault None) = ap Err c.in-Err.ensures.faults in
    let run = c.args.run.now in
    let r = record_next run c.args.asks.now (words_since (g.T.Tape.drawn c.args.tape.now) (g.T.Tape.drawn c.begin_batch.new.tape)) in
    λ start t seals stands tells. subst (λ (x : Result (Unit {0}) Fault). FetchAnswers run.sealer.keys run.params start.versions (g.S.Store.disk c.begin_batch.new.store).cells t r run.ring.stash.rows run.ring.stash.rows x) (sym refused) tt

pub returns-in-Err-clause-within : goal.returns-in-Err-clause-within
returns-in-Err-clause-within g c =
    within_next c.args.run.now (g.S.Store.disk c.args.store.now) (g.S.Store.disk c.begin_batch.new.store) c.begin_batch.ensures.within

pub returns-in-Err-clause-scheduled : goal.returns-in-Err-clause-scheduled
returns-in-Err-clause-scheduled g c =
    let run = c.args.run.now in
    let p = c.args.run.now.params in
    let old = g.S.Store.disk c.args.store.now in
    let mid = g.S.Store.disk c.begin_batch.new.store in
    let r = record_next c.args.run.now c.args.asks.now (words_since (g.T.Tape.drawn c.args.tape.now) (g.T.Tape.drawn c.begin_batch.new.tape)) in
    let told = append_told g.S.Store.disk run.sealer.keys p (suc run.epoch) r c.args.store.now c.begin_batch.new.store (g.W.Watch.trace c.args.watch.now) (g.W.Watch.trace c.begin_batch.new.watch) c.in-Err.fault c.in-Err.ensures.faults
    (stages_next g.S.Store.disk run.sealer.keys p run.epoch (next_batch run) r c.args.store.now c.begin_batch.new.store (g.W.Watch.trace c.args.watch.now) (g.W.Watch.trace c.begin_batch.new.watch) (Err c.in-Err.fault) c.in-Err.ensures.stages) in
    let first = told.first in
    let front = shown_begun c.args.crew.now.lanes p run.sealer.generation run.gates run.ring (next_batch run) run.epoch r c.requires.goes_on.ready.table.0 c.requires.goes_on.ready.table.1 (batch_room run c.requires.some_left c.requires.goes_on.ready.few) c.begin_batch.ensures.obeys
    old.seen mid.seen (g.W.Watch.trace c.args.watch.now) (g.W.Watch.trace c.begin_batch.new.watch) first in (
      first.shown,
      first.tells.shows,
      open_short g.S.Store.disk run.sealer.keys p (suc run.epoch) r c.args.store.now c.begin_batch.new.store (g.W.Watch.trace c.args.watch.now) (g.W.Watch.trace c.begin_batch.new.watch) c.in-Err.fault c.in-Err.ensures.faults told,
      λ content rs was many. begun_shown (Err c.in-Err.fault) refl c.in-Err.ensures.faults c.args.crew.now.lanes (append_notes p (suc run.epoch) (next_batch run)) _ _ first.shown old.seen mid.seen front,
    )

pub returns-in-Err-clause-wears : goal.returns-in-Err-clause-wears
returns-in-Err-clause-wears g c =
    let refused : Err c.in-Err.fault ≡ Err (StoreFault None) = ap Err c.in-Err.ensures.faults in
    record {
      worn = ((λ worn. absurd (subst IsWornOut refused worn)), (λ worn. absurd (enough_left c.args.run.now _ c.if-is_worn.false c.is_worn.ensures worn)));
      idle = λ worn. absurd (subst IsWornOut refused worn);
    }

pub returns-in-Err-clause-keeps : goal.returns-in-Err-clause-keeps
returns-in-Err-clause-keeps g c = record { kept = refl; words = c.begin_batch.ensures.room; fit = λ fit. tt }

pub returns-in-Err-clause-counts : goal.returns-in-Err-clause-counts
returns-in-Err-clause-counts g c = record { served = tt; refused = (refl, refl, refl) }

pub returns-in-Err-clause-goes_on : goal.returns-in-Err-clause-goes_on
returns-in-Err-clause-goes_on g c = tt

pub returns-in-Err-clause-act : goal.returns-in-Err-clause-act
returns-in-Err-clause-act g c = λ tells.
    let run = c.args.run.now in
    let serves = returns-in-Err-clause-serves g c in
    fetch_acts run.params (suc run.epoch % 2) (next_batch run) (g.S.Store.disk c.args.store.now) (g.S.Store.disk c.begin_batch.new.store) (g.met.S.Store.only_now c.args.store.now) run.sealer c.begin_batch.new.sealer serves.goes tells c.in-Err.ensures.seals.some (returns-in-Err-clause-within g c)
    c.args.out.now (Err c.in-Err.fault) (returns-in-Err-clause-sealed g c (serves.goes.told tells))

pub returns-in-Err-clause-standing : goal.returns-in-Err-clause-standing
returns-in-Err-clause-standing g c =
    let run = c.args.run.now in
    let p = run.params in
    let keys = run.sealer.keys in
    let old = g.S.Store.disk c.args.store.now in
    let mid = g.S.Store.disk c.begin_batch.new.store in
    let words = words_since (g.T.Tape.drawn c.args.tape.now) (g.T.Tape.drawn c.begin_batch.new.tape) in
    let r = record_next run c.args.asks.now words in
    let refused : Err c.in-Err.fault ≡ Err (StoreFault None) = ap Err c.in-Err.ensures.faults in
    let then : Run = record run { sealer = c.begin_batch.new.sealer; drawn = run.drawn + p.places; spent = true; words = c.begin_batch.new.words } in
    record {
      stands = λ s was. subst (λ (x : Result (Unit {0}) Fault). FetchStands s r c.args.asks.now mid then c.args.out.now x) (sym refused) tt;
      images = λ s was.
          begun_leaves run s r old mid was (begun_now run c.args.asks.now words old mid c.requires.some_left c.requires.goes_on.ready.few c.begin_batch.ensures.obeys (within_next run old mid c.begin_batch.ensures.within) was.tells)
          (g.met.S.Store.only_now c.args.store.now) c.begin_batch.ensures.within c.begin_batch.ensures.images;
      stages = λ s was.
          stages_begun g.S.Store.disk run s c.args.asks.now words c.args.store.now was c.requires.some_left c.requires.goes_on.ready.few c.begin_batch.ensures.obeys c.begin_batch.new.store (g.W.Watch.trace c.args.watch.now) (g.W.Watch.trace c.begin_batch.new.watch) c.in-Err.fault c.in-Err.ensures.faults
          (subst (λ (e : ℕ). TellsFirst (append_notes p e (next_batch run)) old.seen mid.seen (g.W.Watch.trace c.args.watch.now) (g.W.Watch.trace c.begin_batch.new.watch)) (next_is run.epoch) c.in-Err.ensures.does.first)
          (begun_leaves run s r old mid was (begun_now run c.args.asks.now words old mid c.requires.some_left c.requires.goes_on.ready.few c.begin_batch.ensures.obeys (within_next run old mid c.begin_batch.ensures.within) was.tells)
          (g.met.S.Store.only_now c.args.store.now) c.begin_batch.ensures.within c.begin_batch.ensures.images)
          (stages_next g.S.Store.disk keys p run.epoch (next_batch run) r c.args.store.now c.begin_batch.new.store (g.W.Watch.trace c.args.watch.now) (g.W.Watch.trace c.begin_batch.new.watch) (Err c.in-Err.fault) c.in-Err.ensures.stages);
    }

-- ---- refused while the batch was read

pub returns-in-Err-read_batch-clause-serves : goal.returns-in-Err-read_batch-clause-serves
returns-in-Err-read_batch-clause-serves g c =
    let first = c.begin_batch.ensures.serves in
    serves_then IsStoreFault _ (g.S.Store.disk c.begin_batch.new.store) _ (Err c.in-Err-read_batch.fault) first.goes first.out c.in-Ok.ensures.serves.tells c.in-Err-read_batch.ensures.serves

pub returns-in-Err-read_batch-clause-faults : goal.returns-in-Err-read_batch-clause-faults
returns-in-Err-read_batch-clause-faults g c = fetch_fault c.in-Err-read_batch.fault c.in-Err-read_batch.ensures.faults

pub returns-in-Err-read_batch-clause-draws : goal.returns-in-Err-read_batch-clause-draws
returns-in-Err-read_batch-clause-draws g c = draws_refused c.args.run.now.params.places _ _ c.in-Err-read_batch.fault c.in-Err-read_batch.ensures.faults c.begin_batch.ensures.draws

pub returns-in-Err-read_batch-clause-drawn : goal.returns-in-Err-read_batch-clause-drawn
returns-in-Err-read_batch-clause-drawn g c = ap (λ (n : ℕ). n + c.args.run.now.params.places) c.requires.goes_on.drawn ∙ sym (drawn_many c.args.run.now.params.places _ _ c.begin_batch.ensures.draws)

pub returns-in-Err-read_batch-clause-within : goal.returns-in-Err-read_batch-clause-within
returns-in-Err-read_batch-clause-within g c =
    within_then (log_cell c.args.run.now.params (suc c.args.run.now.epoch % 2) (next_batch c.args.run.now) 0) (record_cells c.args.run.now.params + 1) (g.S.Store.disk c.args.store.now) (g.S.Store.disk c.begin_batch.new.store) (g.S.Store.disk c.read_batch.new.store)
    (λ tells. c.in-Ok.ensures.serves.tells tells) (within_next c.args.run.now (g.S.Store.disk c.args.store.now) (g.S.Store.disk c.begin_batch.new.store) c.begin_batch.ensures.within) c.read_batch.ensures.keeps c.read_batch.ensures.passes

pub returns-in-Err-read_batch-clause-value : goal.returns-in-Err-read_batch-clause-value
returns-in-Err-read_batch-clause-value g c =
    let run = c.args.run.now in
    let p = c.args.run.now.params in
    let keys = c.args.run.now.sealer.keys in
    let old = g.S.Store.disk c.args.store.now in
    let mid = g.S.Store.disk c.begin_batch.new.store in
    let new = g.S.Store.disk c.read_batch.new.store in
    let r = record_next c.args.run.now c.args.asks.now (words_since (g.T.Tape.drawn c.args.tape.now) (g.T.Tape.drawn c.begin_batch.new.tape)) in
    let ks = c.in-Ok.ensures.seals.some.keys in
    let gs = ap (λ (x : ℕ × ℕ). x.0) c.next.ensures.identity ∙ c.in-Ok.ensures.seals.some.generation in
    let ws = c.front.ensures ∙ c.begin_batch.ensures.words in
    λ start t seals stands tells.
    let told = c.in-Ok.ensures.serves.tells tells in
    subst (λ (image : Image). FetchAnswers keys p start.versions image t r run.ring.stash.rows c.read_batch.new.ring.stash.rows (Err c.in-Err-read_batch.fault)) (sym (cells_same mid new told c.read_batch.ensures.keeps))
    (answers_refused keys p start.versions mid.cells t r run.ring.stash.rows c.read_batch.new.ring.stash.rows c.in-Err-read_batch.fault c.in-Err-read_batch.ensures.faults
    (answers_as ks c.requires.goes_on.ready.params gs ws (next_batch run) run.sealer.next run.drawn c.args.asks.now start.versions mid.cells t run.ring.stash.rows c.read_batch.new.ring.stash.rows (Err c.in-Err-read_batch.fault)
    (c.in-Err-read_batch.ensures.value (next_batch run) run.sealer.next start t seals stands told)))

pub returns-in-Err-read_batch-clause-does : goal.returns-in-Err-read_batch-clause-does
returns-in-Err-read_batch-clause-does g c =
    let run = c.args.run.now in
    let p = c.args.run.now.params in
    let keys = c.args.run.now.sealer.keys in
    let mid = g.S.Store.disk c.begin_batch.new.store in
    let new = g.S.Store.disk c.read_batch.new.store in
    let r = record_next c.args.run.now c.args.asks.now (words_since (g.T.Tape.drawn c.args.tape.now) (g.T.Tape.drawn c.begin_batch.new.tape)) in
    let ks = c.in-Ok.ensures.seals.some.keys in
    let gs = ap (λ (x : ℕ × ℕ). x.0) c.next.ensures.identity ∙ c.in-Ok.ensures.seals.some.generation in
    let ws = c.front.ensures ∙ c.begin_batch.ensures.words in
    λ start t seals stands.
    does_refused g.S.Store.disk c.args.crew.now.lanes keys p (suc run.epoch) r (batch_cells p start.versions t (asked_of_record p r)) (repeated_notes p start.versions t (asked_of_record p r)) c.args.store.now c.read_batch.new.store
    (g.W.Watch.trace c.args.watch.now) (g.W.Watch.trace c.read_batch.new.watch) c.in-Err-read_batch.fault c.in-Err-read_batch.ensures.faults (logged_first g.S.Store.disk c.args.crew.now.lanes keys p run.epoch r (batch_cells p start.versions t (asked_of_record p r)) (repeated_notes p start.versions t (asked_of_record p r)) c.args.store.now c.begin_batch.new.store c.read_batch.new.store
    (g.W.Watch.trace c.args.watch.now) (g.W.Watch.trace c.begin_batch.new.watch) (g.W.Watch.trace c.read_batch.new.watch) (Err c.in-Err-read_batch.fault) c.in-Ok.ensures.does.all c.in-Ok.ensures.open c.read_batch.ensures.passes
    (tells_as ks c.requires.goes_on.ready.params gs ws (next_batch run) run.sealer.next run.drawn c.args.asks.now c.args.crew.now.lanes start.versions t mid.seen new.seen (g.W.Watch.trace c.begin_batch.new.watch)
    (g.W.Watch.trace c.read_batch.new.watch) (Err c.in-Err-read_batch.fault) (c.in-Err-read_batch.ensures.told (next_batch run) run.sealer.next start t seals stands)))

pub returns-in-Err-read_batch-clause-scheduled : goal.returns-in-Err-read_batch-clause-scheduled
returns-in-Err-read_batch-clause-scheduled g c =
    let run = c.args.run.now in
    let p = c.args.run.now.params in
    let keys = c.args.run.now.sealer.keys in
    let mid = g.S.Store.disk c.begin_batch.new.store in
    let new = g.S.Store.disk c.read_batch.new.store in
    let r = record_next c.args.run.now c.args.asks.now (words_since (g.T.Tape.drawn c.args.tape.now) (g.T.Tape.drawn c.begin_batch.new.tape)) in
    let ks = c.in-Ok.ensures.seals.some.keys in
    let gs = ap (λ (x : ℕ × ℕ). x.0) c.next.ensures.identity ∙ c.in-Ok.ensures.seals.some.generation in
    let ws = c.front.ensures ∙ c.begin_batch.ensures.words in
    let scheduled = cut_scheduled c.args.crew.now.lanes run.params run.sealer.generation run.gates run.ring (next_batch run) run.epoch r c.requires.goes_on.ready.table.0 c.requires.goes_on.ready.table.1 (batch_room run c.requires.some_left c.requires.goes_on.ready.few) c.begin_batch.ensures.obeys
    g.S.Store.disk run.sealer.keys c.args.store.now c.read_batch.new.store (g.W.Watch.trace c.args.watch.now) (g.W.Watch.trace c.read_batch.new.watch) c.in-Err-read_batch.fault c.in-Err-read_batch.ensures.faults
    (λ start t seals stands. (logged_first g.S.Store.disk c.args.crew.now.lanes keys p run.epoch r (batch_cells p start.versions t (asked_of_record p r)) (repeated_notes p start.versions t (asked_of_record p r)) c.args.store.now c.begin_batch.new.store c.read_batch.new.store
    (g.W.Watch.trace c.args.watch.now) (g.W.Watch.trace c.begin_batch.new.watch) (g.W.Watch.trace c.read_batch.new.watch) (Err c.in-Err-read_batch.fault) c.in-Ok.ensures.does.all c.in-Ok.ensures.open c.read_batch.ensures.passes
    (tells_as ks c.requires.goes_on.ready.params gs ws (next_batch run) run.sealer.next run.drawn c.args.asks.now c.args.crew.now.lanes start.versions t mid.seen new.seen (g.W.Watch.trace c.begin_batch.new.watch)
    (g.W.Watch.trace c.read_batch.new.watch) (Err c.in-Err-read_batch.fault) (c.in-Err-read_batch.ensures.told (next_batch run) run.sealer.next start t seals stands)))) in
    let shown = scheduled.0 in
    (shown.notes, shown.shows, scheduled.1, shown.reads_as)

pub returns-in-Err-read_batch-clause-wears : goal.returns-in-Err-read_batch-clause-wears
returns-in-Err-read_batch-clause-wears g c = record {
  worn = ((λ worn. absurd (not_worn c.in-Err-read_batch.fault c.in-Err-read_batch.ensures.faults worn)), (λ worn. absurd (enough_left c.args.run.now _ c.if-is_worn.false c.is_worn.ensures worn)));
  idle = λ worn. absurd (not_worn c.in-Err-read_batch.fault c.in-Err-read_batch.ensures.faults worn);
}

pub returns-in-Err-read_batch-clause-keeps : goal.returns-in-Err-read_batch-clause-keeps
returns-in-Err-read_batch-clause-keeps g c = record { kept = refl; words = c.begin_batch.ensures.room; fit = λ fit. tt }

pub returns-in-Err-read_batch-clause-counts : goal.returns-in-Err-read_batch-clause-counts
returns-in-Err-read_batch-clause-counts g c = record { served = tt; refused = (refl, refl, refl) }

pub returns-in-Err-read_batch-clause-goes_on : goal.returns-in-Err-read_batch-clause-goes_on
returns-in-Err-read_batch-clause-goes_on g c = tt

pub returns-in-Err-read_batch-clause-sealed : goal.returns-in-Err-read_batch-clause-sealed
returns-in-Err-read_batch-clause-sealed g c = λ tells. tt

pub returns-in-Err-read_batch-clause-act : goal.returns-in-Err-read_batch-clause-act
returns-in-Err-read_batch-clause-act g c = λ tells.
    let run = c.args.run.now in
    let serves = returns-in-Err-read_batch-clause-serves g c in
    fetch_acts run.params (suc run.epoch % 2) (next_batch run) (g.S.Store.disk c.args.store.now) (g.S.Store.disk c.read_batch.new.store) (g.met.S.Store.only_now c.args.store.now) run.sealer c.begin_batch.new.sealer serves.goes tells c.in-Ok.ensures.seals.some
    (returns-in-Err-read_batch-clause-within g c) c.args.out.now (Err c.in-Err-read_batch.fault) (returns-in-Err-read_batch-clause-sealed g c (serves.goes.told tells))

pub returns-in-Err-read_batch-clause-standing : goal.returns-in-Err-read_batch-clause-standing
returns-in-Err-read_batch-clause-standing g c =
    let run = c.args.run.now in
    let p = run.params in
    let keys = run.sealer.keys in
    let old = g.S.Store.disk c.args.store.now in
    let mid = g.S.Store.disk c.begin_batch.new.store in
    let new = g.S.Store.disk c.read_batch.new.store in
    let words = words_since (g.T.Tape.drawn c.args.tape.now) (g.T.Tape.drawn c.begin_batch.new.tape) in
    let r = record_next run c.args.asks.now words in
    let then : Run = record run { sealer = c.begin_batch.new.sealer; drawn = run.drawn + p.places; spent = true; ring = c.read_batch.new.ring; jobs = c.read_batch.new.jobs; words = c.begin_batch.new.words } in
    record {
      stands = λ s was.
          let told = c.in-Ok.ensures.serves.tells was.tells in
          let written = written_still keys p run.epoch (next_batch run) r mid new told c.read_batch.ensures.keeps (c.in-Ok.ensures.written was.tells) in
          let begun = begun_now run c.args.asks.now words old new c.requires.some_left c.requires.goes_on.ready.few c.begin_batch.ensures.obeys (returns-in-Err-read_batch-clause-within g c) was.tells in
          let value = value_stood run s old was new.cells r c.read_batch.new.ring.stash.rows (Err c.in-Err-read_batch.fault) (returns-in-Err-read_batch-clause-value g c) in
          refused_then run s r old new was begun written then c.args.out.now c.read_batch.new.ring.stash.rows c.in-Err-read_batch.fault c.in-Err-read_batch.ensures.faults value;
      images = λ s was.
          leaves_read (OneOf keys p s (with_record s r)) old mid new (g.met.S.Store.only_now c.begin_batch.new.store) (g.met.S.Store.counts_now c.begin_batch.new.store)
          (begun_leaves run s r old mid was (begun_now run c.args.asks.now words old mid c.requires.some_left c.requires.goes_on.ready.few c.begin_batch.ensures.obeys (within_next run old mid c.begin_batch.ensures.within) was.tells)
          (g.met.S.Store.only_now c.args.store.now) c.begin_batch.ensures.within c.begin_batch.ensures.images) c.read_batch.ensures.passes;
      stages = λ s was.
          stages_refused g.S.Store.disk run s r c.args.store.now c.read_batch.new.store c.in-Err-read_batch.fault c.in-Err-read_batch.ensures.faults
          (stages_logged g.S.Store.disk run s c.args.asks.now words c.args.store.now c.begin_batch.new.store c.read_batch.new.store (g.met.S.Store.only_now c.args.store.now) (g.met.S.Store.only_now c.begin_batch.new.store) was
          c.requires.some_left c.requires.goes_on.ready.few c.begin_batch.ensures.obeys c.begin_batch.ensures.within c.begin_batch.ensures.images (c.in-Ok.ensures.written was.tells) (c.in-Ok.ensures.durable was.tells) c.in-Ok.ensures.does.all.seen
          (record_stages g.S.Store.disk run s c.args.asks.now words c.args.store.now was c.requires.some_left c.requires.goes_on.ready.few c.begin_batch.ensures.obeys c.begin_batch.new.store
          (stages_next g.S.Store.disk keys p run.epoch (next_batch run) r c.args.store.now c.begin_batch.new.store (g.W.Watch.trace c.args.watch.now) (g.W.Watch.trace c.begin_batch.new.watch) (Ok tt) c.in-Ok.ensures.stages)) c.read_batch.ensures.passes);
    }

-- ---- read

pub returns-clause-serves : goal.returns-clause-serves
returns-clause-serves g c =
    let first = c.begin_batch.ensures.serves in
    serves_then IsStoreFault _ (g.S.Store.disk c.begin_batch.new.store) _ (Ok tt) first.goes first.out c.in-Ok.ensures.serves.tells c.in-Ok-read_batch.ensures.serves

pub returns-clause-draws : goal.returns-clause-draws
returns-clause-draws g c = c.begin_batch.ensures.draws

pub returns-clause-drawn : goal.returns-clause-drawn
returns-clause-drawn g c = ap (λ (n : ℕ). n + c.args.run.now.params.places) c.requires.goes_on.drawn ∙ sym (drawn_many c.args.run.now.params.places _ _ c.begin_batch.ensures.draws)

pub returns-clause-answers : goal.returns-clause-answers
returns-clause-answers g c = c.answer_all.ensures ∙ ap (λ (st : Held). values_asked st.rows c.args.asks.now) c.tables.ensures.stash

pub returns-clause-durable : goal.returns-clause-durable
returns-clause-durable g c = λ tells. settled_then _ _ (c.in-Ok.ensures.serves.tells tells) (c.in-Ok.ensures.durable tells) c.read_batch.ensures.keeps c.read_batch.ensures.passes

pub returns-clause-moves : goal.returns-clause-moves
returns-clause-moves g c =
    let run = c.args.run.now in
    let ks = c.in-Ok.ensures.seals.some.keys in
    let gs = ap (λ (x : ℕ × ℕ). x.0) c.next.ensures.identity ∙ c.in-Ok.ensures.seals.some.generation in
    let ws = c.front.ensures ∙ c.begin_batch.ensures.words in
    let e = c.read_batch.ensures in
    moves_as ks c.requires.goes_on.ready.params gs ws (next_batch run) run.sealer.next run.drawn c.args.asks.now run.ring c.read_batch.new.ring
    (record { kept = e.kept; room = e.room; entries = λ k. e.entries (next_batch run) run.sealer.next k; seals = e.seals; table = λ t stands. e.table (next_batch run) run.sealer.next t stands })

pub returns-clause-within : goal.returns-clause-within
returns-clause-within g c =
    within_then (log_cell c.args.run.now.params (suc c.args.run.now.epoch % 2) (next_batch c.args.run.now) 0) (record_cells c.args.run.now.params + 1) (g.S.Store.disk c.args.store.now) (g.S.Store.disk c.begin_batch.new.store) (g.S.Store.disk c.read_batch.new.store)
    (λ tells. c.in-Ok.ensures.serves.tells tells) (within_next c.args.run.now (g.S.Store.disk c.args.store.now) (g.S.Store.disk c.begin_batch.new.store) c.begin_batch.ensures.within) c.read_batch.ensures.keeps c.read_batch.ensures.passes

pub returns-clause-value : goal.returns-clause-value
returns-clause-value g c =
    let run = c.args.run.now in
    let p = c.args.run.now.params in
    let keys = c.args.run.now.sealer.keys in
    let old = g.S.Store.disk c.args.store.now in
    let mid = g.S.Store.disk c.begin_batch.new.store in
    let new = g.S.Store.disk c.read_batch.new.store in
    let r = record_next c.args.run.now c.args.asks.now (words_since (g.T.Tape.drawn c.args.tape.now) (g.T.Tape.drawn c.begin_batch.new.tape)) in
    let ks = c.in-Ok.ensures.seals.some.keys in
    let gs = ap (λ (x : ℕ × ℕ). x.0) c.next.ensures.identity ∙ c.in-Ok.ensures.seals.some.generation in
    let ws = c.front.ensures ∙ c.begin_batch.ensures.words in
    λ start t seals stands tells.
    let told = c.in-Ok.ensures.serves.tells tells in
    subst (λ (image : Image). FetchAnswers keys p start.versions image t r run.ring.stash.rows c.read_batch.new.ring.stash.rows (Ok tt)) (sym (cells_same mid new told c.read_batch.ensures.keeps))
    (answers_as ks c.requires.goes_on.ready.params gs ws (next_batch run) run.sealer.next run.drawn c.args.asks.now start.versions mid.cells t run.ring.stash.rows c.read_batch.new.ring.stash.rows (Ok tt) (c.in-Ok-read_batch.ensures.value (next_batch run) run.sealer.next start t seals stands told))

pub returns-clause-does : goal.returns-clause-does
returns-clause-does g c =
    let run = c.args.run.now in
    let p = c.args.run.now.params in
    let keys = c.args.run.now.sealer.keys in
    let mid = g.S.Store.disk c.begin_batch.new.store in
    let new = g.S.Store.disk c.read_batch.new.store in
    let r = record_next c.args.run.now c.args.asks.now (words_since (g.T.Tape.drawn c.args.tape.now) (g.T.Tape.drawn c.begin_batch.new.tape)) in
    let ks = c.in-Ok.ensures.seals.some.keys in
    let gs = ap (λ (x : ℕ × ℕ). x.0) c.next.ensures.identity ∙ c.in-Ok.ensures.seals.some.generation in
    let ws = c.front.ensures ∙ c.begin_batch.ensures.words in
    λ start t seals stands.
    logged_first g.S.Store.disk c.args.crew.now.lanes keys p run.epoch r (batch_cells p start.versions t (asked_of_record p r)) (repeated_notes p start.versions t (asked_of_record p r)) c.args.store.now c.begin_batch.new.store c.read_batch.new.store
    (g.W.Watch.trace c.args.watch.now) (g.W.Watch.trace c.begin_batch.new.watch) (g.W.Watch.trace c.read_batch.new.watch) (Ok tt) c.in-Ok.ensures.does.all c.in-Ok.ensures.open c.read_batch.ensures.passes
    (tells_as ks c.requires.goes_on.ready.params gs ws (next_batch run) run.sealer.next run.drawn c.args.asks.now c.args.crew.now.lanes start.versions t mid.seen new.seen (g.W.Watch.trace c.begin_batch.new.watch)
    (g.W.Watch.trace c.read_batch.new.watch) (Ok tt) (c.in-Ok-read_batch.ensures.told (next_batch run) run.sealer.next start t seals stands))

pub returns-clause-sealed : goal.returns-clause-sealed
returns-clause-sealed g c = λ tells.
    let old = g.S.Store.disk c.args.store.now in
    let mid = g.S.Store.disk c.begin_batch.new.store in
    let new = g.S.Store.disk c.read_batch.new.store in
    let told = c.in-Ok.ensures.serves.tells tells in
    subst (λ (image : Image). CellsAreSealed c.args.run.now.sealer c.begin_batch.new.sealer old.cells image) (sym (cells_same mid new told c.read_batch.ensures.keeps)) (c.in-Ok.ensures.sealed tells)

pub returns-clause-scheduled : goal.returns-clause-scheduled
returns-clause-scheduled g c =
    let run = c.args.run.now in
    let r = record_next c.args.run.now c.args.asks.now (words_since (g.T.Tape.drawn c.args.tape.now) (g.T.Tape.drawn c.begin_batch.new.tape)) in
    let shown = shown_well c.args.crew.now.lanes run.params run.sealer.generation run.gates run.ring (next_batch run) run.epoch r c.requires.goes_on.ready.table.0 c.requires.goes_on.ready.table.1 (batch_room run c.requires.some_left c.requires.goes_on.ready.few) c.begin_batch.ensures.obeys
    g.S.Store.disk run.sealer.keys c.args.store.now c.read_batch.new.store (g.W.Watch.trace c.args.watch.now) (g.W.Watch.trace c.read_batch.new.watch) (returns-clause-does g c) in
    (shown.notes, shown.shows, tt, shown.reads_as)

pub returns-clause-onward : goal.returns-clause-onward
returns-clause-onward g c = λ content rs was many.
    let run = c.args.run.now in
    let p = c.args.run.now.params in
    let r = record_next c.args.run.now c.args.asks.now (words_since (g.T.Tape.drawn c.args.tape.now) (g.T.Tape.drawn c.begin_batch.new.tape)) in
    plans_as c.in-Ok.ensures.seals.some.generation p run.gates c.read_batch.new.ring content (rs ++ r ∷ [])
    (plans_more p run.sealer.generation run.gates run.ring content rs r (next_batch run) was many (batch_room run c.requires.some_left c.requires.goes_on.ready.few) c.begin_batch.ensures.obeys c.read_batch.new.ring (omega arith) (returns-clause-moves g c))

pub returns-in-Err-clause-does : goal.returns-in-Err-clause-does
returns-in-Err-clause-does g c =
    let run = c.args.run.now in
    let p = run.params in
    let mid = g.S.Store.disk c.begin_batch.new.store in
    let r = record_next run c.args.asks.now (words_since (g.T.Tape.drawn c.args.tape.now) (g.T.Tape.drawn c.begin_batch.new.tape)) in
    let refused : Err c.in-Err.fault ≡ Err (StoreFault None) = ap Err c.in-Err.ensures.faults in
    let first = subst (λ (e : ℕ). TellsFirst (append_notes p e (next_batch run)) (g.S.Store.disk c.args.store.now).seen mid.seen (g.W.Watch.trace c.args.watch.now) (g.W.Watch.trace c.begin_batch.new.watch)) (next_is run.epoch)
    c.in-Err.ensures.does.first in
    λ start t seals stands.
    subst
    (λ (x : Result (Unit {0}) Fault). FetchDoes g.S.Store.disk c.args.crew.now.lanes run.sealer.keys p (suc run.epoch) r (batch_cells p start.versions t (asked_of_record p r)) (repeated_notes p start.versions t (asked_of_record p r)) c.args.store.now c.begin_batch.new.store
    (g.W.Watch.trace c.args.watch.now) (g.W.Watch.trace c.begin_batch.new.watch) x) (sym refused) (inl first)

pub returns-clause-wears : goal.returns-clause-wears
returns-clause-wears g c = record { worn = ((λ worn. absurd worn), (λ worn. absurd (enough_left c.args.run.now _ c.if-is_worn.false c.is_worn.ensures worn))); idle = λ worn. absurd worn }

pub returns-clause-keeps : goal.returns-clause-keeps
returns-clause-keeps g c = record { kept = refl; words = c.begin_batch.ensures.room; fit = λ fit. c.in-Ok-read_batch.ensures.fit fit }

pub returns-clause-counts : goal.returns-clause-counts
returns-clause-counts g c = record { served = (omega (arith, c.requires.some_left), refl); refused = tt }

pub returns-clause-goes_on : goal.returns-clause-goes_on
returns-clause-goes_on g c =
    let was = c.requires.goes_on in
    let ready = was.ready in
    let e = c.read_batch.ensures in
    let generation = c.in-Ok.ensures.seals.some.generation in
    record {
      none_out = omega (arith, was.none_out, c.begin_batch.ensures.serves.out, e.serves.out);
      ready = record {
        params = ap (λ (k : Kept). k.p) e.kept ∙ ready.params;
        rooms = (e.rooms.0 ∙ ready.rooms.0, e.rooms.1 ∙ ready.rooms.1);
        words = omega (arith, c.begin_batch.ensures.room, ready.words);
        few = omega (arith, ready.few);
        small = ready.small;
        generation = subst (λ (n : ℕ). n < 2 ^ 62) (sym generation) ready.generation;
        table = (_, e.table 0 0 ready.table.0 ready.table.1);
      };
      serves = refl;
      crew = subst (λ (m : Manned). most_jobs c.args.run.now.params ≤ m.jobs) (sym e.crew) was.crew;
      generation = c.begin_batch.ensures.same ∙ was.generation ∙ sym generation;
      drawn = returns-clause-drawn g c;
      few = (left_for c.args.run.now _ c.if-is_worn.false c.is_worn.ensures).0;
    }

pub returns-clause-act : goal.returns-clause-act
returns-clause-act g c = λ tells.
    let run = c.args.run.now in
    let serves = returns-clause-serves g c in
    fetch_acts run.params (suc run.epoch % 2) (next_batch run) (g.S.Store.disk c.args.store.now) (g.S.Store.disk c.read_batch.new.store) (g.met.S.Store.only_now c.args.store.now) run.sealer c.begin_batch.new.sealer serves.goes tells c.in-Ok.ensures.seals.some (returns-clause-within g c)
    c.answer_all.new.out (Ok tt) (returns-clause-sealed g c (serves.goes.told tells))

pub returns-clause-standing : goal.returns-clause-standing
returns-clause-standing g c =
    let run = c.args.run.now in
    let p = run.params in
    let keys = run.sealer.keys in
    let old = g.S.Store.disk c.args.store.now in
    let mid = g.S.Store.disk c.begin_batch.new.store in
    let new = g.S.Store.disk c.read_batch.new.store in
    let words = words_since (g.T.Tape.drawn c.args.tape.now) (g.T.Tape.drawn c.begin_batch.new.tape) in
    let r = record_next run c.args.asks.now words in
    let ks = c.in-Ok.ensures.seals.some.keys in
    let generation = c.in-Ok.ensures.seals.some.generation in
    record {
      stands = λ s was.
          let told = c.in-Ok.ensures.serves.tells was.tells in
          let written = written_still keys p run.epoch (next_batch run) r mid new told c.read_batch.ensures.keeps (c.in-Ok.ensures.written was.tells) in
          let begun = begun_now run c.args.asks.now words old new c.requires.some_left c.requires.goes_on.ready.few c.begin_batch.ensures.obeys (returns-clause-within g c) was.tells in
          let value = value_stood run s old was new.cells r c.read_batch.new.ring.stash.rows (Ok tt) (returns-clause-value g c) in (
            record {
              tells = c.in-Ok-read_batch.ensures.serves.tells told;
              settled = returns-clause-durable g c was.tells;
              stands = stands_as ks refl (with_record s r) new.cells (stands_then run s r old new was begun written);
              runs = runs_as ks refl refl generation (run.left - 1) c.read_batch.new.ring (with_record s r) new.cells
                  (runs_next run s r old new was begun written c.read_batch.new.ring (run.left - 1) (omega (arith, c.requires.some_left)) (returns-clause-moves g c) value);
            },
            subst (λ (o : List (Option (List ℕ))). AreMapValues s.map c.args.asks.now o) (sym (c.answer_all.ensures ∙ ap (λ (st : Held). values_asked st.rows c.args.asks.now) c.tables.ensures.stash))
                (answers_then run s r old new was begun written c.read_batch.new.ring.stash.rows value),
          );
      images = λ s was.
          leaves_read (OneOf keys p s (with_record s r)) old mid new (g.met.S.Store.only_now c.begin_batch.new.store) (g.met.S.Store.counts_now c.begin_batch.new.store)
          (begun_leaves run s r old mid was (begun_now run c.args.asks.now words old mid c.requires.some_left c.requires.goes_on.ready.few c.begin_batch.ensures.obeys (within_next run old mid c.begin_batch.ensures.within) was.tells)
          (g.met.S.Store.only_now c.args.store.now) c.begin_batch.ensures.within c.begin_batch.ensures.images) c.read_batch.ensures.passes;
      stages = λ s was.
          stages_logged g.S.Store.disk run s c.args.asks.now words c.args.store.now c.begin_batch.new.store c.read_batch.new.store (g.met.S.Store.only_now c.args.store.now) (g.met.S.Store.only_now c.begin_batch.new.store) was
          c.requires.some_left c.requires.goes_on.ready.few c.begin_batch.ensures.obeys c.begin_batch.ensures.within c.begin_batch.ensures.images (c.in-Ok.ensures.written was.tells) (c.in-Ok.ensures.durable was.tells) c.in-Ok.ensures.does.all.seen
          (record_stages g.S.Store.disk run s c.args.asks.now words c.args.store.now was c.requires.some_left c.requires.goes_on.ready.few c.begin_batch.ensures.obeys c.begin_batch.new.store
          (stages_next g.S.Store.disk keys p run.epoch (next_batch run) r c.args.store.now c.begin_batch.new.store (g.W.Watch.trace c.args.watch.now) (g.W.Watch.trace c.begin_batch.new.watch) (Ok tt) c.in-Ok.ensures.stages)) c.read_batch.ensures.passes;
    }

-- ---- the batch may be begun

pub begin_batch-requires-clause-none_out : goal.begin_batch-requires-clause-none_out
begin_batch-requires-clause-none_out g c = c.requires.goes_on.none_out

pub begin_batch-requires-clause-batch : goal.begin_batch-requires-clause-batch
begin_batch-requires-clause-batch g c = batch_room c.args.run.now c.requires.some_left c.requires.goes_on.ready.few

pub begin_batch-requires-clause-epoch : goal.begin_batch-requires-clause-epoch
begin_batch-requires-clause-epoch g c = omega (arith, c.requires.goes_on.ready.small)

pub begin_batch-requires-clause-generation : goal.begin_batch-requires-clause-generation
begin_batch-requires-clause-generation g c = c.requires.goes_on.ready.generation

pub begin_batch-requires-clause-first : goal.begin_batch-requires-clause-first
begin_batch-requires-clause-first g c = c.requires.goes_on.drawn

pub begin_batch-requires-clause-words_left : goal.begin_batch-requires-clause-words_left
begin_batch-requires-clause-words_left g c = (left_for c.args.run.now _ c.if-is_worn.false c.is_worn.ensures).0

pub begin_batch-requires-clause-seals_left : goal.begin_batch-requires-clause-seals_left
begin_batch-requires-clause-seals_left g c = (left_for c.args.run.now _ c.if-is_worn.false c.is_worn.ensures).1

pub begin_batch-requires-clause-room : goal.begin_batch-requires-clause-room
begin_batch-requires-clause-room g c = c.requires.goes_on.ready.words

pub begin_batch-requires-clause-asks : goal.begin_batch-requires-clause-asks
begin_batch-requires-clause-asks g c = c.requires.whole

-- ---- what stays

pub returns-in-Err-clause-generation : goal.returns-in-Err-clause-generation
returns-in-Err-clause-generation g c = c.begin_batch.ensures.same

pub returns-in-Err-read_batch-clause-generation : goal.returns-in-Err-read_batch-clause-generation
returns-in-Err-read_batch-clause-generation g c = c.begin_batch.ensures.same

pub returns-in-Err-read_batch-clause-seals : goal.returns-in-Err-read_batch-clause-seals
returns-in-Err-read_batch-clause-seals g c = record { all = tt; some = c.in-Ok.ensures.seals.some }

pub returns-in-Err-read_batch-clause-crew : goal.returns-in-Err-read_batch-clause-crew
returns-in-Err-read_batch-clause-crew g c = c.read_batch.ensures.crew

pub returns-clause-generation : goal.returns-clause-generation
returns-clause-generation g c = c.begin_batch.ensures.same

pub returns-clause-seals : goal.returns-clause-seals
returns-clause-seals g c = c.in-Ok.ensures.seals

pub returns-clause-crew : goal.returns-clause-crew
returns-clause-crew g c = c.read_batch.ensures.crew
