use Rattle.std.proofs.Common.{inl, refl, sym, ap, subst, arith}
use Rattle.std.specs.Prelude.{◌≤◌, IfErr, IfOk, is_ok}
use mathlib.Core.Path.{fun_ext}
use Rattle.ob_store.specs.Disk.{Image}
use Rattle.ob_store.specs.Images.{Same}
use Rattle.ob_store.specs.Calls.{IsStoreFault}
use Rattle.ob_store.proofs.Events.{none_noted}
use Rattle.ob_store.proofs.Lanes.{first_none}
use Rattle.ob_store.proofs.Moments.{passed_none}
use Rattle.ob_store.proofs.Serving.{serves_then, goes_same, serves_err}
use Rattle.ob_cells.specs.Jobs.{Manned}
use Rattle.ob_start.specs.Orders.{registers_notes}
use Rattle.ob_recover.specs.Finds.{IsFoundOf}
use Rattle.ob_stand.specs.Stands.{RingStanding, Stands}
use Rattle.ob_stand.proofs.Frames.{stands_all}
use Rattle.ob_twin.proofs.Clear.{by_then, none_clear}
use Rattle.ob_twin.specs.Keyed.{tagging}
use Rattle.ob_twin.specs.Register.{StandsAt}
use Rattle.ob_opening.specs.OpeningParts.{IsFoundRefusal}
use Rattle.ob_opening.specs.OpeningRuns.{IsRingOpened, RefusedDoes}
use Rattle.ob_opening.specs.OpeningActs.{OpensInLife}
use Rattle.ob_opening.proofs.ActLaws.{all_acts, found_acts, opens_nothing, reads_told}
use Rattle.ob_opening.proofs.FaultLaws.{all_does, all_faults, all_refusals, all_writes, find_does, find_fault, find_refusal, find_standing, find_writes}
use Rattle.ob_opening.proofs.OpenedLaws.{finding_read, found_same}
use Rattle.ob_opening.proofs.PadLaws.{act_of, unopened_by}
use Rattle.ob_opening.proofs.StoodLaws.{all_standing}
use Rattle.ob_opening.proofs.WholeLaws.{all_leaves, all_opened, all_tapes, tape_of}
use Rattle.ob_opening.proofs.StopLaws.{all_stops, find_stops, unread_stops}
use Rattle.ob_opening.specs.OpeningStops.{OpeningStops}
use Rattle.ob_base.specs.declared.fault.Fault.TheVariants.{Memory}
use Rattle.ob_opening.proofs.preparing.prepare.Goals as goal

-- ---- no memory for the rooms

pub returns-in-Err-clause-leaves : goal.returns-in-Err-clause-leaves
returns-in-Err-clause-leaves g c = inl (passed_none (g.S.Store.disk c.args.store.now) Same (λ image. refl))

pub returns-in-Err-clause-unwritten : goal.returns-in-Err-clause-unwritten
returns-in-Err-clause-unwritten g c = record { tape = refl; keeps = record { tells = λ tells. tells; cells = λ tells k. refl }; passes = passed_none (g.S.Store.disk c.args.store.now) Same (λ image. refl) }

pub returns-in-Err-clause-does_err : goal.returns-in-Err-clause-does_err
returns-in-Err-clause-does_err g c = inl (first_none registers_notes _ _ _ (none_noted (g.S.Store.disk c.args.store.now).seen))

pub returns-in-Err-clause-acts : goal.returns-in-Err-clause-acts
returns-in-Err-clause-acts g c = λ word_of s pending tells left.
    let disk = g.S.Store.disk c.args.store.now in
    let trace = g.W.Watch.trace c.args.watch.now in
    opens_nothing c.args.keys.now c.args.lanes c.args.p.now word_of s pending disk disk trace trace left.allowed (found_acts c.args.keys.now c.args.p.now word_of s pending disk.cells left) (passed_none disk Same (λ image. refl))
    (λ gates are shown known. first_none _ disk.seen disk.seen trace (none_noted disk.seen))

-- ---- not all was found

pub returns-in-Err-find-clause-faults : goal.returns-in-Err-find-clause-faults
returns-in-Err-find-clause-faults g c = find_fault c.in-Err-find.fault c.in-Err-find.ensures.faults

pub returns-in-Err-find-clause-refused : goal.returns-in-Err-find-clause-refused
returns-in-Err-find-clause-refused g c = λ tells.
    find_refusal c.args.keys.now c.args.p.now (g.S.Store.disk c.args.store.now).cells c.in-Err-find.fault c.in-Err-find.ensures.faults (c.in-Err-find.ensures.value tells)

pub returns-in-Err-find-clause-stands : goal.returns-in-Err-find-clause-stands
returns-in-Err-find-clause-stands g c = λ s tells stands.
    find_standing s c.in-Err-find.fault (c.in-Err-find.ensures.stands s tells stands)

pub returns-in-Err-find-clause-leaves : goal.returns-in-Err-find-clause-leaves
returns-in-Err-find-clause-leaves g c = inl c.in-Err-find.ensures.passes

pub returns-in-Err-find-clause-unwritten : goal.returns-in-Err-find-clause-unwritten
returns-in-Err-find-clause-unwritten g c =
    find_writes g.S.Store.disk c.args.keys.now c.args.p.now c.args.store.now c.find.new.store c.args.tape.now c.args.tape.now (g.T.Tape.present c.args.tape.now) (g.T.Tape.drawn c.args.tape.now) c.in-Err-find.fault c.in-Err-find.ensures.faults
    (record { tape = refl; keeps = c.in-Err-find.ensures.keeps; passes = c.in-Err-find.ensures.passes })

pub returns-in-Err-find-clause-does_err : goal.returns-in-Err-find-clause-does_err
returns-in-Err-find-clause-does_err g c =
    find_does c.args.keys.now c.args.lanes c.args.p.now (g.S.Store.disk c.args.store.now) (g.S.Store.disk c.find.new.store) (g.W.Watch.trace c.args.watch.now) (g.W.Watch.trace c.find.new.watch) c.in-Err-find.fault
    c.in-Err-find.ensures.faults c.in-Err-find.ensures.does

pub returns-in-Err-find-clause-acts : goal.returns-in-Err-find-clause-acts
returns-in-Err-find-clause-acts g c = λ word_of s pending tells left.
    let keys = c.args.keys.now in
    let p = c.args.p.now in
    let old = g.S.Store.disk c.args.store.now in
    let new = g.S.Store.disk c.find.new.store in
    let before = g.W.Watch.trace c.args.watch.now in
    let after = g.W.Watch.trace c.find.new.watch in
    let f = found_acts keys p word_of s pending old.cells left in
    opens_nothing keys c.args.lanes p word_of s pending old new before after left.allowed f c.in-Err-find.ensures.passes
    (λ gates are shown known. reads_told keys p f.here.standing old new before after c.in-Err-find.fault tells f.here.stands c.in-Err-find.ensures.does gates _ shown known)

-- ---- all was found

pub open_found-requires-clause-gates : goal.open_found-requires-clause-gates
open_found-requires-clause-gates g c κs within = λ told.
    let keeps = c.in-Ok-find.ensures.keeps in
    let tells = c.in-Ok-find.ensures.serves.goes.told told in
    found_same c.args.keys.now c.args.p.now c.in-Ok-find.found (g.S.Store.disk c.args.store.now).cells (g.S.Store.disk c.find.new.store).cells (keeps.cells tells) (c.in-Ok-find.ensures.value tells)

pub returns-clause-serves : goal.returns-clause-serves
returns-clause-serves g c =
    let first = c.in-Ok-find.ensures.serves in
    serves_then IsStoreFault (g.S.Store.disk c.args.store.now) (g.S.Store.disk c.find.new.store) (g.S.Store.disk c.open_found.new.store) c.open_found.result first.goes first.out first.tells c.open_found.ensures.serves

pub returns-clause-faults : goal.returns-clause-faults
returns-clause-faults g c = all_faults c.in-Ok-find.found.generation c.open_found.result c.open_found.ensures.faults

pub returns-clause-refused : goal.returns-clause-refused
returns-clause-refused g c = λ tells.
    let keys = c.args.keys.now in
    let p = c.args.p.now in
    let found = c.in-Ok-find.found in
    let keeps = c.in-Ok-find.ensures.keeps in
    all_refusals keys p (g.S.Store.disk c.args.store.now).cells found c.open_found.result (c.in-Ok-find.ensures.value tells) c.open_found.ensures.faults
    (subst (λ (image : Image). IfErr c.open_found.result (IsFoundRefusal keys p image found)) (fun_ext (λ k. keeps.cells tells k)) (c.open_found.ensures.refused (keeps.tells tells)))

pub returns-clause-opened : goal.returns-clause-opened
returns-clause-opened g c =
    let e = c.open_found.ensures in
    let before = g.W.Watch.trace c.args.watch.now in
    let after = g.W.Watch.trace c.open_found.new.watch in
    subst (λ n. IfOk c.open_found.result (IsRingOpened g.S.Store.disk c.args.keys.now n c.args.p.now c.args.store.now c.open_found.new.store before after)) (ap (λ (m : Manned). m.lanes) c.in-Ok.ensures.crew)
    (all_opened g.S.Store.disk c.args.keys.now c.args.p.now c.args.store.now c.find.new.store c.open_found.new.store c.in-Ok-find.ensures.keeps c.in-Ok-find.ensures.passes c.in-Ok.rooms.crew.lanes c.in-Ok-find.found
    before (g.W.Watch.trace c.find.new.watch) after c.in-Ok-find.ensures.does c.in-Ok-find.ensures.value c.open_found.result (subst (λ n. 1 ≤ n) (sym (ap (λ (m : Manned). m.lanes) c.in-Ok.ensures.crew)) c.requires.lanes.0) e.is e.lanes e.told e.stood e.begins e.does c.in-Ok-find.ensures.some)

pub returns-clause-stands : goal.returns-clause-stands
returns-clause-stands g c = λ s tells stands.
    let keys = c.args.keys.now in
    let p = c.args.p.now in
    let found = c.in-Ok-find.found in
    let old = (g.S.Store.disk c.args.store.now).cells in
    let mid = (g.S.Store.disk c.find.new.store).cells in
    let keeps = c.in-Ok-find.ensures.keeps in
    let told = keeps.tells tells in
    let here = stands_all keys p s mid old (keeps.cells tells) stands in
    let e = c.open_found.ensures in
    let is = c.in-Ok-find.ensures.stands s tells stands in
    all_standing keys p s mid (g.S.Store.disk c.open_found.new.store) found here is c.open_found.result e.is (e.told told)
    (e.stood told (subst (λ n. StandsAt (tagging keys) 1 mid n) (sym is.generation) here.generation)) e.faults (e.refused told)

pub returns-clause-leaves : goal.returns-clause-leaves
returns-clause-leaves g c =
    let read = finding_read c.args.p.now c.in-Ok-find.found.epoch (g.S.Store.disk c.args.store.now).seen (g.S.Store.disk c.find.new.store).seen c.in-Ok-find.ensures.does.seen in
    all_leaves g.S.Store.disk c.args.keys.now c.args.p.now c.args.store.now c.find.new.store c.open_found.new.store c.in-Ok-find.ensures.keeps c.in-Ok-find.ensures.passes c.open_found.result read c.open_found.ensures.leaves

pub returns-clause-tape : goal.returns-clause-tape
returns-clause-tape g c =
    tape_of c.args.keys.now c.args.p.now c.in-Ok-find.found (g.T.Tape.present c.open_found.new.tape) (g.T.Tape.drawn c.open_found.new.tape) c.open_found.result c.open_found.ensures.is c.open_found.ensures.tape

pub returns-clause-tape_err : goal.returns-clause-tape_err
returns-clause-tape_err g c =
    all_tapes g.S.Store.disk c.args.keys.now c.args.p.now c.args.store.now c.find.new.store c.open_found.new.store c.in-Ok-find.ensures.keeps c.in-Ok-find.ensures.passes c.in-Ok.rooms.crew.lanes c.in-Ok-find.found
    (g.W.Watch.trace c.args.watch.now) (g.W.Watch.trace c.find.new.watch) (g.W.Watch.trace c.open_found.new.watch) c.in-Ok-find.ensures.does c.in-Ok-find.ensures.value
    (g.T.Tape.present c.open_found.new.tape) (g.T.Tape.drawn c.open_found.new.tape) c.args.tape.now c.open_found.new.tape c.open_found.result c.open_found.ensures.begins_err

pub returns-clause-unwritten : goal.returns-clause-unwritten
returns-clause-unwritten g c =
    all_writes g.S.Store.disk c.args.keys.now c.args.p.now c.in-Ok-find.found.generation c.args.store.now c.find.new.store c.open_found.new.store c.args.tape.now c.open_found.new.tape g.T.Tape.present (g.T.Tape.drawn c.open_found.new.tape)
    c.find.new.watch c.open_found.new.watch c.in-Ok-find.ensures.keeps c.in-Ok-find.ensures.passes c.requires.unstarted c.open_found.result c.open_found.ensures.faults c.open_found.ensures.stays
    (all_tapes g.S.Store.disk c.args.keys.now c.args.p.now c.args.store.now c.find.new.store c.open_found.new.store c.in-Ok-find.ensures.keeps c.in-Ok-find.ensures.passes c.in-Ok.rooms.crew.lanes c.in-Ok-find.found
    (g.W.Watch.trace c.args.watch.now) (g.W.Watch.trace c.find.new.watch) (g.W.Watch.trace c.open_found.new.watch) c.in-Ok-find.ensures.does c.in-Ok-find.ensures.value
    (g.T.Tape.present c.open_found.new.tape) (g.T.Tape.drawn c.open_found.new.tape) c.args.tape.now c.open_found.new.tape c.open_found.result c.open_found.ensures.begins_err)

pub returns-clause-does_err : goal.returns-clause-does_err
returns-clause-does_err g c =
    subst (λ n. IfErr c.open_found.result (RefusedDoes c.args.keys.now n c.args.p.now (g.S.Store.disk c.args.store.now) (g.S.Store.disk c.open_found.new.store) (g.W.Watch.trace c.args.watch.now) (g.W.Watch.trace c.open_found.new.watch)))
    (ap (λ (m : Manned). m.lanes) c.in-Ok.ensures.crew)
    (all_does g.S.Store.disk g.W.Watch.trace c.args.keys.now c.in-Ok.rooms.crew.lanes c.args.p.now c.in-Ok-find.found c.args.store.now c.find.new.store c.open_found.new.store c.args.tape.now c.open_found.new.tape (g.T.Tape.present c.open_found.new.tape)
    c.args.watch.now c.find.new.watch c.open_found.new.watch c.open_found.result
    c.in-Ok-find.ensures.value c.in-Ok-find.ensures.keeps c.in-Ok-find.ensures.passes c.in-Ok-find.ensures.does c.open_found.ensures.faults c.open_found.ensures.does c.open_found.ensures.stays)

pub returns-clause-acts : goal.returns-clause-acts
returns-clause-acts g c = λ word_of s pending tells left.
    let keys = c.args.keys.now in
    let p = c.args.p.now in
    let found = c.in-Ok-find.found in
    let disk = g.S.Store.disk in
    let old = c.args.store.now in
    let mid = c.find.new.store in
    let new = c.open_found.new.store in
    let before = g.W.Watch.trace c.args.watch.now in
    let between = g.W.Watch.trace c.find.new.watch in
    let after = g.W.Watch.trace c.open_found.new.watch in
    let found_in = c.in-Ok-find.ensures in
    let e = c.open_found.ensures in
    let told = found_in.keeps.tells tells in
    let is : (st : RingStanding) → Stands keys p st (disk old).cells → IsFoundOf st found = λ st stands. found_in.stands st tells stands in
    let st = (found_acts keys p word_of s pending (disk old).cells left).here in
    let here = stands_all keys p st.standing (disk mid).cells (disk old).cells (found_in.keeps.cells tells) st.stands in
    let same = is st.standing st.stands in
    let stood = all_standing keys p st.standing (disk mid).cells (disk new) found here same c.open_found.result e.is (e.told told)
    (e.stood told (subst (λ n. StandsAt (tagging keys) 1 (disk mid).cells n) (sym same.generation) here.generation)) e.faults (e.refused told) in
    let leaves = all_leaves disk keys p old mid new found_in.keeps found_in.passes c.open_found.result (finding_read p found.epoch (disk old).seen (disk mid).seen found_in.does.seen) e.leaves in
    subst (λ n. OpensInLife keys n p word_of s pending (disk old) (disk new) before after (is_ok c.open_found.result)) (ap (λ (m : Manned). m.lanes) c.in-Ok.ensures.crew)
    (all_acts disk g.met.S.Store.counts_now keys c.in-Ok.rooms.crew.lanes p found old mid new before between after found_in.keeps found_in.passes found_in.does found_in.obeys found_in.some tells (found_in.value tells)
    (subst (λ n. 1 ≤ n) (sym (ap (λ (m : Manned). m.lanes) c.in-Ok.ensures.crew)) c.requires.lanes.0)
    word_of s pending left is c.args.tape.now c.open_found.new.tape (g.T.Tape.present c.open_found.new.tape) (g.T.Tape.drawn c.open_found.new.tape) c.open_found.result stood leaves e.does e.begins_err)

pub returns-in-Err-clause-serves : goal.returns-in-Err-clause-serves
returns-in-Err-clause-serves g c = record { goes = goes_same (g.S.Store.disk c.args.store.now); out = omega arith; tells = tt; cause = λ blamed. absurd blamed }

pub returns-in-Err-find-clause-serves : goal.returns-in-Err-find-clause-serves
returns-in-Err-find-clause-serves g c = serves_err IsStoreFault IsStoreFault _ _ c.in-Err-find.fault c.in-Err-find.fault (λ f. f) c.in-Err-find.ensures.serves

-- ---- what was found may be opened

pub open_found-requires-clause-none_out : goal.open_found-requires-clause-none_out
open_found-requires-clause-none_out g c κs within = (let none = c.requires.none_out in let out = c.find.ensures.serves.out in omega arith)

pub open_found-requires-clause-unstarted : goal.open_found-requires-clause-unstarted
open_found-requires-clause-unstarted g c κs within = c.requires.unstarted

pub open_found-requires-clause-obeys : goal.open_found-requires-clause-obeys
open_found-requires-clause-obeys g c κs within = c.in-Ok-find.ensures.obeys

pub returns-in-Err-clause-tape_err : goal.returns-in-Err-clause-tape_err
returns-in-Err-clause-tape_err g c = inl refl

pub returns-in-Err-find-clause-tape_err : goal.returns-in-Err-find-clause-tape_err
returns-in-Err-find-clause-tape_err g c = inl refl

-- ---- an act of the store's life over its pads

pub returns-in-Err-clause-act : goal.returns-in-Err-clause-act
returns-in-Err-clause-act g c = λ tells.
    let store = c.args.store.now in
    unopened_by g.S.Store.disk c.args.keys.now c.args.p.now store store (g.met.S.Store.only_now store) (goes_same (g.S.Store.disk store)) tells (returns-in-Err-clause-leaves g c) (λ cell low. inl (inl refl))

pub returns-in-Err-find-clause-act : goal.returns-in-Err-find-clause-act
returns-in-Err-find-clause-act g c = λ tells.
    let store = c.args.store.now in
    unopened_by g.S.Store.disk c.args.keys.now c.args.p.now store c.find.new.store (g.met.S.Store.only_now store) c.in-Err-find.ensures.serves.goes tells (returns-in-Err-find-clause-leaves g c)
    (λ cell low. inl (inl (c.in-Err-find.ensures.keeps.cells (c.in-Err-find.ensures.serves.goes.told tells) cell)))

pub returns-clause-act : goal.returns-clause-act
returns-clause-act g c = λ tells.
    let store = c.args.store.now in
    let tag = tagging c.args.keys.now in
    let mid = (g.S.Store.disk c.find.new.store).cells in
    let new = g.S.Store.disk c.open_found.new.store in
    let here = c.find.ensures.serves.goes.told (c.open_found.ensures.serves.goes.told tells) in
    act_of g.S.Store.disk c.args.keys.now c.args.p.now store c.open_found.new.store (g.met.S.Store.only_now store) (returns-clause-serves g c).goes tells c.args.lanes (g.W.Watch.trace c.args.watch.now) (g.W.Watch.trace c.open_found.new.watch)
    c.open_found.result (returns-clause-opened g c) (returns-clause-leaves g c)
    (by_then tag (g.S.Store.disk store).cells mid new.cells (none_clear tag (g.S.Store.disk store).cells mid (λ cell low. c.in-Ok-find.ensures.keeps.cells here cell)) new.seen c.open_found.result (c.open_found.ensures.clear tells))

-- ---- where it stopped

pub open_found-requires-clause-some : goal.open_found-requires-clause-some
open_found-requires-clause-some g c κs within = c.in-Ok-find.ensures.some

pub returns-in-Err-clause-stops : goal.returns-in-Err-clause-stops
returns-in-Err-clause-stops g c = unread_stops c.args.keys.now c.args.lanes c.args.p.now (g.S.Store.disk c.args.store.now) (g.W.Watch.trace c.args.watch.now) Memory

pub returns-in-Err-find-clause-stops : goal.returns-in-Err-find-clause-stops
returns-in-Err-find-clause-stops g c =
    find_stops c.args.keys.now c.args.lanes c.args.p.now (g.S.Store.disk c.args.store.now) (g.S.Store.disk c.find.new.store) (g.W.Watch.trace c.args.watch.now) (g.W.Watch.trace c.find.new.watch) c.in-Err-find.fault
    c.in-Err-find.ensures.does c.in-Err-find.ensures.passes

pub returns-clause-stops : goal.returns-clause-stops
returns-clause-stops g c =
    let keys = c.args.keys.now in
    let p = c.args.p.now in
    let found = c.in-Ok-find.ensures in
    let old = g.S.Store.disk c.args.store.now in
    let new = g.S.Store.disk c.open_found.new.store in
    let before = g.W.Watch.trace c.args.watch.now in
    let after = g.W.Watch.trace c.open_found.new.watch in
    subst (λ n. IfErr c.open_found.result (OpeningStops keys n p old new before after)) (ap (λ (m : Manned). m.lanes) c.in-Ok.ensures.crew)
    (all_stops keys c.in-Ok.rooms.crew.lanes p c.in-Ok-find.found old (g.S.Store.disk c.find.new.store) new before (g.W.Watch.trace c.find.new.watch) after found.does found.keeps found.passes c.open_found.result found.value found.some c.open_found.ensures.stops)
