use Rattle.std.proofs.Common.{◌≡◌, ◌<◌, ◌≤◌, ◌+◌, ◌*◌, ◌^◌, ◌∙◌, suc, Err, ap, arith, length, inr, refl, replicate, subst, sym, take}
use Rattle.ob_base.specs.declared.params.Params.{Params}
use Rattle.ob_base.specs.Tree.{buckets, width}
use Rattle.ob_end.specs.Lifts.{LiftsAnswer, lift_cells, lift_notes}
use Rattle.ob_end.specs.Renewals.{end_seals, end_words, renewed_writes}
use Rattle.ob_fetch.specs.Fetches.{words_since}
use Rattle.ob_recover.specs.Repeats.{BatchIsShown, BatchTells}
use Rattle.ob_ring.specs.FlatTable.{FinalLifts, after}
use Rattle.ob_ring.specs.Ring.{Kept}
use Rattle.ob_end.specs.EndRuns.{HasWords, MakeAnswers, MakeDraws, end_writes, rows_ended}
use Rattle.ob_end.proofs.ActLaws.{runs_of_ring, stands_of_ring}
use Rattle.ob_end.proofs.MakeLaws.{is_renewed, lifts_damage, lifts_draw, lifts_told, made_kept, refill_room, renew_answers, renew_draws, renewal, rows_are, seals_are, served_then, when_renewed, words_are, writes_are, lifts_answer, lifts_faults}
use Rattle.ob_end.proofs.StashLaws.{has_its_rows}
use Rattle.ob_base.specs.Planned.{most_jobs}
use Rattle.ob_ring.specs.Writing.{write_at}
use Rattle.ob_store.specs.Images.{Same}
use Rattle.ob_store.proofs.Moments.{passed_none}
use Rattle.ob_store.proofs.Serving.{goes_same}
use Rattle.ob_end.proofs.making.make_end.Goals as goal

pub returns-in-Err-clause-damage : goal.returns-in-Err-clause-damage
returns-in-Err-clause-damage g c = λ start t seals stands tells.
    let ring = c.args.run.now.ring in
    lifts_damage c.args.run.now.sealer.keys c.args.run.now.params start.versions (g.S.Store.disk c.args.store.now).cells t ring.stash.rows c.read_lifts.new.ring.stash.rows c.in-Err.fault c.in-Err.ensures.faults
    (subst (λ (q : Params). LiftsAnswer c.args.run.now.sealer.keys q start.versions (g.S.Store.disk c.args.store.now).cells t ring.stash.rows c.read_lifts.new.ring.stash.rows (Err c.in-Err.fault)) c.requires.ready.ready.params
    (c.in-Err.ensures.value start t seals stands tells))

pub returns-in-Err-clause-told : goal.returns-in-Err-clause-told
returns-in-Err-clause-told g c = λ start t seals stands.
    lifts_told c.args.crew.now.lanes (lift_cells c.args.run.now.params start.versions t) (lift_notes c.args.run.now.params start.versions t) _ _ _ _ c.in-Err.fault c.in-Err.ensures.faults
    (subst (λ (q : Params). BatchTells c.args.crew.now.lanes (lift_cells q start.versions t) (lift_notes q start.versions t) (g.S.Store.disk c.args.store.now).seen (g.S.Store.disk c.read_lifts.new.store).seen
    (g.W.Watch.trace c.args.watch.now) (g.W.Watch.trace c.read_lifts.new.watch) (Err c.in-Err.fault)) c.requires.ready.ready.params (c.in-Err.ensures.told start t seals stands))

pub renew-requires-clause-stash : goal.renew-requires-clause-stash
renew-requires-clause-stash g c =
    let fit = c.requires.ready.planner in
    has_its_rows c.args.run.now.ring c.read_lifts.new.ring fit (c.in-Ok.ensures.table fit.table fit.stands) (c.in-Ok.ensures.joins fit.table fit.stands)

pub renew-requires-clause-room : goal.renew-requires-clause-room
renew-requires-clause-room g c =
    let lifted = c.read_lifts.new.ring in
    let same : lifted.p ≡ c.args.run.now.params = ap (λ (r : Kept). r.p) c.read_lifts.ensures.kept ∙ c.requires.ready.ready.params in
    let room = refill_room lifted c.read_lifts.ensures.listed in
    let all = subst (λ (q : Params). buckets q * width q ≤ length c.args.run.now.words.items) (sym same) c.requires.ready.all_words in
    omega (arith, room, all)

pub renew-requires-clause-index : goal.renew-requires-clause-index
renew-requires-clause-index g c =
    let same : c.read_lifts.new.ring.p ≡ c.args.run.now.params = ap (λ (r : Kept). r.p) c.read_lifts.ensures.kept ∙ c.requires.ready.ready.params in
    c.requires.index ∙ ap (λ (q : Params). replicate (buckets q) 0) (sym same)

pub returns-clause-index : goal.returns-clause-index
returns-clause-index g c = c.renew.ensures.index

pub returns-clause-serves : goal.returns-clause-serves
returns-clause-serves g c =
    let run = c.args.run.now in
    let lifted = c.read_lifts.new.ring in
    let words = words_since (g.T.Tape.drawn c.args.tape.now) (g.T.Tape.drawn c.renew.new.tape) in
    let is = is_renewed (run.drawn + end_words lifted) _ lifted.p.room run.sealer.next (end_seals lifted) c.renew.result
    (λ more. (c.renew.ensures.worn more).0) (λ few. c.renew.ensures.answers few (after run.ring.p c.requires.ready.planner.table FinalLifts) (c.in-Ok.ensures.table c.requires.ready.planner.table c.requires.ready.planner.stands)) in
    served_then (g.S.Store.disk c.args.store.now) (g.S.Store.disk c.read_lifts.new.store) c.renew.result (renewal _ _ _ _ _ c.renew.result is) c.in-Ok.ensures.serves

pub returns-clause-faults : goal.returns-clause-faults
returns-clause-faults g c =
    let run = c.args.run.now in
    let lifted = c.read_lifts.new.ring in
    let words = words_since (g.T.Tape.drawn c.args.tape.now) (g.T.Tape.drawn c.renew.new.tape) in
    let is = is_renewed (run.drawn + end_words lifted) _ lifted.p.room run.sealer.next (end_seals lifted) c.renew.result
    (λ more. (c.renew.ensures.worn more).0) (λ few. c.renew.ensures.answers few (after run.ring.p c.requires.ready.planner.table FinalLifts) (c.in-Ok.ensures.table c.requires.ready.planner.table c.requires.ready.planner.stands)) in
    (renewal _ _ _ _ _ c.renew.result is).faults

pub returns-clause-answers : goal.returns-clause-answers
returns-clause-answers g c = λ t stands.
    let run = c.args.run.now in
    let lifted = c.read_lifts.new.ring in
    let words = words_since (g.T.Tape.drawn c.args.tape.now) (g.T.Tape.drawn c.renew.new.tape) in
    let is = is_renewed (run.drawn + end_words lifted) _ lifted.p.room run.sealer.next (end_seals lifted) c.renew.result
    (λ more. (c.renew.ensures.worn more).0) (λ few. c.renew.ensures.answers few (after run.ring.p t FinalLifts) (c.in-Ok.ensures.table t stands)) in
    let more : suc run.epoch < 2 ^ 62 = omega (arith, c.if-run-ge-NUMBER_LIMIT.false) in
    let same = ap (λ (r : Kept). r.p) c.read_lifts.ensures.kept in
    subst (λ (q : Params). MakeAnswers q t run.epoch run.drawn run.sealer.next (end_writes q c.args.writes.now words run.sealer.generation run.drawn) c.renew.result) c.requires.ready.ready.params
    (renew_answers run.ring.p t run.epoch run.drawn run.sealer.next (end_writes run.ring.p c.args.writes.now words run.sealer.generation run.drawn) more _ _ _ _
    (ap (λ n. run.drawn + n) (words_are run.ring.p t lifted same (c.in-Ok.ensures.table t stands) c.read_lifts.ensures.listed))
    (rows_are run.ring.p t lifted same (renewed_writes lifted c.args.writes.now (take lifted.p.writes words) run.sealer.generation run.drawn) ∙ ap (rows_ended run.ring.p t) (writes_are run.ring.p t lifted same c.args.writes.now words run.sealer.generation run.drawn))
    (ap (λ (q : Params). q.room) same) (seals_are run.ring.p t lifted same (c.in-Ok.ensures.table t stands) c.read_lifts.ensures.listed) c.renew.result is)

pub returns-clause-draws : goal.returns-clause-draws
returns-clause-draws g c = λ t stands.
    let run = c.args.run.now in
    let lifted = c.read_lifts.new.ring in
    let words = words_since (g.T.Tape.drawn c.args.tape.now) (g.T.Tape.drawn c.renew.new.tape) in
    let is = is_renewed (run.drawn + end_words lifted) _ lifted.p.room run.sealer.next (end_seals lifted) c.renew.result
    (λ more. (c.renew.ensures.worn more).0) (λ few. c.renew.ensures.answers few (after run.ring.p t FinalLifts) (c.in-Ok.ensures.table t stands)) in
    let more : suc run.epoch < 2 ^ 62 = omega (arith, c.if-run-ge-NUMBER_LIMIT.false) in
    let same = ap (λ (r : Kept). r.p) c.read_lifts.ensures.kept in
    subst (λ (q : Params). MakeDraws q t run.epoch run.drawn (g.T.Tape.drawn c.args.tape.now) (g.T.Tape.drawn c.renew.new.tape) c.renew.result) c.requires.ready.ready.params
    (renew_draws run.ring.p t run.epoch run.drawn (g.T.Tape.drawn c.args.tape.now) (g.T.Tape.drawn c.renew.new.tape) more (end_words lifted) _ _ _ _ (words_are run.ring.p t lifted same (c.in-Ok.ensures.table t stands) c.read_lifts.ensures.listed)
    c.renew.result is (λ above. ap g.T.Tape.drawn (c.renew.ensures.worn above).1) c.renew.ensures.draws)

pub returns-in-Err-clause-draws : goal.returns-in-Err-clause-draws
returns-in-Err-clause-draws g c = λ t stands. lifts_draw c.args.run.now.params t c.args.run.now.epoch c.args.run.now.drawn (g.T.Tape.drawn c.args.tape.now) c.in-Err.fault c.in-Err.ensures.faults

pub returns-clause-made : goal.returns-clause-made
returns-clause-made g c =
    let run = c.args.run.now in
    let lifted = c.read_lifts.new.ring in
    let words = words_since (g.T.Tape.drawn c.args.tape.now) (g.T.Tape.drawn c.renew.new.tape) in
    let is = is_renewed (run.drawn + end_words lifted) _ lifted.p.room run.sealer.next (end_seals lifted) c.renew.result
    (λ more. (c.renew.ensures.worn more).0) (λ few. c.renew.ensures.answers few (after run.ring.p c.requires.ready.planner.table FinalLifts) (c.in-Ok.ensures.table c.requires.ready.planner.table c.requires.ready.planner.stands)) in
    let e = c.in-Ok.ensures in
    when_renewed _ _ _ _ _ c.renew.result is
    (λ few. record {
      lifted = lifted;
      rules = c.tables.ensures.rules;
      kept = made_kept run.ring lifted _ c.read_lifts.ensures.kept;
      room = c.read_lifts.ensures.room;
      seals = c.read_lifts.ensures.seals;
      listed = c.read_lifts.ensures.listed;
      table = e.table;
      joins = e.joins;
      read = e.value;
      renews = c.renew.ensures.renews few;
    })

pub returns-clause-told : goal.returns-clause-told
returns-clause-told g c = λ start t seals stands.
    let run = c.args.run.now in
    let lifted = c.read_lifts.new.ring in
    let words = words_since (g.T.Tape.drawn c.args.tape.now) (g.T.Tape.drawn c.renew.new.tape) in
    let is = is_renewed (run.drawn + end_words lifted) _ lifted.p.room run.sealer.next (end_seals lifted) c.renew.result
    (λ more. (c.renew.ensures.worn more).0) (λ few. c.renew.ensures.answers few (after run.ring.p t FinalLifts) (c.in-Ok.ensures.table t stands)) in
    (renewal _ _ _ _ _ c.renew.result is).told c.args.crew.now.lanes (lift_cells run.params start.versions t) (lift_notes run.params start.versions t) _ _ _ _
    (subst (λ (q : Params). BatchIsShown c.args.crew.now.lanes (lift_cells q start.versions t) (lift_notes q start.versions t) (g.S.Store.disk c.args.store.now).seen (g.S.Store.disk c.read_lifts.new.store).seen
    (g.W.Watch.trace c.args.watch.now) (g.W.Watch.trace c.read_lifts.new.watch)) c.requires.ready.ready.params (c.in-Ok.ensures.told start t seals stands))

pub returns-then-run-ge-NUMBER_LIMIT-clause-draws : goal.returns-then-run-ge-NUMBER_LIMIT-clause-draws
returns-then-run-ge-NUMBER_LIMIT-clause-draws g c = λ t stands.
    inr ((λ (has : HasWords c.args.run.now.params t c.args.run.now.epoch c.args.run.now.drawn). let low = has.epochs in let last = c.if-run-ge-NUMBER_LIMIT.true in absurd (omega (arith, low, last))), refl)

pub returns-in-Err-clause-undamaged : goal.returns-in-Err-clause-undamaged
returns-in-Err-clause-undamaged g c = λ s at.
    let run = c.args.run.now in
    let old = g.S.Store.disk c.args.store.now in
    let same = c.requires.ready.ready.params in
    c.in-Err.ensures.sound s run.epoch run.sealer.generation run.left at.tells (stands_of_ring run s old same at) (runs_of_ring run s old same at)

pub returns-clause-undamaged : goal.returns-clause-undamaged
returns-clause-undamaged g c = λ s at.
    let run = c.args.run.now in
    let lifted = c.read_lifts.new.ring in
    let is = is_renewed (run.drawn + end_words lifted) _ lifted.p.room run.sealer.next (end_seals lifted) c.renew.result
    (λ more. (c.renew.ensures.worn more).0) (λ few. c.renew.ensures.answers few (after run.ring.p c.requires.ready.planner.table FinalLifts) (c.in-Ok.ensures.table c.requires.ready.planner.table c.requires.ready.planner.stands)) in
    (renewal _ _ _ _ _ c.renew.result is).undamaged

pub returns-then-run-ge-NUMBER_LIMIT-clause-serves : goal.returns-then-run-ge-NUMBER_LIMIT-clause-serves
returns-then-run-ge-NUMBER_LIMIT-clause-serves g c = record { goes = goes_same (g.S.Store.disk c.args.store.now); out = omega arith; tells = tt; cause = λ blamed. absurd blamed }

pub returns-then-run-ge-NUMBER_LIMIT-clause-keeps : goal.returns-then-run-ge-NUMBER_LIMIT-clause-keeps
returns-then-run-ge-NUMBER_LIMIT-clause-keeps g c = record { tells = λ tells. tells; cells = λ tells k. refl }

pub returns-then-run-ge-NUMBER_LIMIT-clause-passes : goal.returns-then-run-ge-NUMBER_LIMIT-clause-passes
returns-then-run-ge-NUMBER_LIMIT-clause-passes g c = passed_none (g.S.Store.disk c.args.store.now) Same (λ image. refl)

pub returns-in-Err-clause-serves : goal.returns-in-Err-clause-serves
returns-in-Err-clause-serves g c = c.in-Err.ensures.serves

pub returns-in-Err-clause-faults : goal.returns-in-Err-clause-faults
returns-in-Err-clause-faults g c = lifts_faults c.in-Err.fault c.in-Err.ensures.faults

pub returns-in-Err-clause-answers : goal.returns-in-Err-clause-answers
returns-in-Err-clause-answers g c =
    let run = c.args.run.now in
    let more : suc run.epoch < 2 ^ 62 = omega (arith, c.if-run-ge-NUMBER_LIMIT.false) in
    λ t stands. lifts_answer run.params t run.epoch run.drawn run.sealer.next
    (end_writes run.params c.args.writes.now (words_since (g.T.Tape.drawn c.args.tape.now) (g.T.Tape.drawn c.args.tape.now)) run.sealer.generation run.drawn) more c.in-Err.fault c.in-Err.ensures.faults

pub read_lifts-requires-clause-stands : goal.read_lifts-requires-clause-stands
read_lifts-requires-clause-stands g c κs within = c.requires.ready.ready.table

pub read_lifts-requires-clause-jobs : goal.read_lifts-requires-clause-jobs
read_lifts-requires-clause-jobs g c κs within =
    let ps = sym c.requires.ready.ready.params in
    (c.requires.ready.ready.rooms.0 ∙ ap most_jobs ps, c.requires.ready.ready.rooms.1 ∙ ap (λ (q : Params). q.places) ps)

pub read_lifts-requires-clause-crew : goal.read_lifts-requires-clause-crew
read_lifts-requires-clause-crew g c κs within = subst (λ (q : Params). most_jobs q ≤ c.args.crew.now.jobs) (sym c.requires.ready.ready.params) c.requires.crew

pub renew-requires-clause-params : goal.renew-requires-clause-params
renew-requires-clause-params g c =
    let same : c.read_lifts.new.ring.p ≡ c.args.run.now.params = ap (λ (r : Kept). r.p) c.read_lifts.ensures.kept ∙ c.requires.ready.ready.params in
    sym same

pub renew-requires-clause-listed : goal.renew-requires-clause-listed
renew-requires-clause-listed g c = c.read_lifts.ensures.listed

pub renew-requires-clause-few : goal.renew-requires-clause-few
renew-requires-clause-few g c =
    let same : c.read_lifts.new.ring.p ≡ c.args.run.now.params = ap (λ (r : Kept). r.p) c.read_lifts.ensures.kept ∙ c.requires.ready.ready.params in
    subst (λ (q : Params). length c.args.writes.now ≤ q.writes) (sym same) c.requires.few

pub renew-requires-clause-keys : goal.renew-requires-clause-keys
renew-requires-clause-keys g c =
    let same : c.read_lifts.new.ring.p ≡ c.args.run.now.params = ap (λ (r : Kept). r.p) c.read_lifts.ensures.kept ∙ c.requires.ready.ready.params in
    λ i lt. subst (λ (q : Params). (write_at c.args.writes.now i).key < q.keys) (sym same) (c.requires.keys i lt)

pub returns-clause-damage : goal.returns-clause-damage
returns-clause-damage g c =
    let run = c.args.run.now in
    let lifted = c.read_lifts.new.ring in
    let is = is_renewed (run.drawn + end_words lifted) _ lifted.p.room run.sealer.next (end_seals lifted) c.renew.result
    (λ more. (c.renew.ensures.worn more).0) (λ few. c.renew.ensures.answers few (after run.ring.p c.requires.ready.planner.table FinalLifts) (c.in-Ok.ensures.table c.requires.ready.planner.table c.requires.ready.planner.stands)) in
    λ start t seals stands tells. (renewal _ _ _ _ _ c.renew.result is).damage run.sealer.keys run.params start.versions (g.S.Store.disk c.args.store.now).cells t

pub returns-clause-keeps : goal.returns-clause-keeps
returns-clause-keeps g c = c.read_lifts.ensures.keeps

pub returns-clause-passes : goal.returns-clause-passes
returns-clause-passes g c = c.read_lifts.ensures.passes

pub returns-clause-generation : goal.returns-clause-generation
returns-clause-generation g c = c.renew.ensures.same

pub returns-clause-drawn : goal.returns-clause-drawn
returns-clause-drawn g c = c.renew.ensures.counted

pub returns-clause-words : goal.returns-clause-words
returns-clause-words g c = c.renew.ensures.words

pub returns-clause-rooms : goal.returns-clause-rooms
returns-clause-rooms g c = c.read_lifts.ensures.rooms

-- ---- what a refusal of the lifts leaves

pub returns-in-Err-clause-keeps : goal.returns-in-Err-clause-keeps
returns-in-Err-clause-keeps g c = c.read_lifts.ensures.keeps

pub returns-in-Err-clause-passes : goal.returns-in-Err-clause-passes
returns-in-Err-clause-passes g c = c.read_lifts.ensures.passes

pub returns-in-Err-clause-crew : goal.returns-in-Err-clause-crew
returns-in-Err-clause-crew g c = c.read_lifts.ensures.crew

pub returns-in-Err-clause-rooms : goal.returns-in-Err-clause-rooms
returns-in-Err-clause-rooms g c = c.read_lifts.ensures.rooms

pub returns-in-Err-clause-drawn : goal.returns-in-Err-clause-drawn
returns-in-Err-clause-drawn g c = c.requires.drawn

pub returns-then-run-ge-NUMBER_LIMIT-clause-drawn : goal.returns-then-run-ge-NUMBER_LIMIT-clause-drawn
returns-then-run-ge-NUMBER_LIMIT-clause-drawn g c = c.requires.drawn

pub renew-requires-clause-drawn : goal.renew-requires-clause-drawn
renew-requires-clause-drawn g c = c.requires.drawn

pub renew-requires-clause-small : goal.renew-requires-clause-small
renew-requires-clause-small g c = c.requires.small

pub returns-clause-crew : goal.returns-clause-crew
returns-clause-crew g c = c.read_lifts.ensures.crew
