-- What is told of an opening, of a batch and of an end is the schedule's.
use Rattle.std.specs.Prelude.{◌≡◌, ℕ, suc, ◌≤◌, List, [], ◌∷◌, ◌++◌, map, take, drop, Option}
use Rattle.std.specs.List.{flat_map}
use Rattle.std.proofs.Common.{refl, sym, ap, subst, ◌∙◌, append_assoc}
use Rattle.std.proofs.lemmas.List.{append-nil, map-append, take-append-drop}
use Rattle.ob_base.specs.declared.params.Params.{Params}
use Rattle.ob_cells.specs.Lanes.{ReadByLanes}
use Rattle.ob_tables.specs.Version.{Version}
use Rattle.ob_tables.specs.Content.{Content}
use Rattle.ob_stand.specs.Table.{flat_of}
use Rattle.ob_log.specs.Appends.{append_notes}
use Rattle.ob_log.specs.Logs.{BatchRecord}
use Rattle.ob_recover.specs.Repeats.{ReadInTurn, RepeatsTold, asked_of_record, batch_cells, place_notes, repeat_cells, repeat_notes, repeated_notes, table_after_records}
use Rattle.ob_ring.specs.FlatTable.{FlatTable, after_place}
use Rattle.ob_ring.specs.Picked.{Picked, batch_picked, job_of, place_picked}
use Rattle.ob_schedule.specs.Phases.{Phase, Reads, events_of_phases, phases_of}
use Rattle.ob_schedule.proofs.Phased.{phases_append, phases_join, steps_phased}
use Rattle.ob_store.specs.Calls.{Notes}
use Rattle.ob_store.specs.Lines.{Shows, Trace}
use Rattle.ob_store.specs.Told.{IsCut, Tells, TellsFirst, events_of}
use Rattle.ob_store.specs.declared.event.Event.{Event}
use Rattle.ob_store.specs.declared.event.Event.TheVariants as event
use Rattle.ob_store.specs.declared.watch.Note.{Note}
use Rattle.ob_store.specs.declared.watch.Note.TheVariants as note
use Rattle.ob_store.proofs.Doing.{cut_behind, cut_more, cut_none, events_join}
use Rattle.ob_store.proofs.Showing.{shows_then}
use Rattle.ob_twin.specs.declared.gates.Gates.{Gates}
use Rattle.ob_recover.specs.Batches.{BatchesAreTold, logged_phases, read_notes_of}
use Rattle.ob_recover.specs.Ends.{EndsAreTold, closing_notes, ending_phases, lifts_cells, lifts_notes, refill_notes}
use Rattle.ob_recover.specs.ShownOpenings.{OpeningsAreCut, OpeningsAreTold, began_notes, opening_notes, opened_phases}
use Rattle.ob_recover.specs.Telling.{ArePhasesMade, AreTold, IsFrontShown, IsRowShown, PhasesJoin}
use Rattle.ob_recover.proofs.Batch.{batches_are_scheduled}
pub use Rattle.ob_recover.proofs.Dealing.{one_lane_in_order}
use Rattle.ob_recover.proofs.Dealing.{HasLane, has_appended, has_closing, has_first, has_join, has_refill, has_some, made_join, made_none, made_read, made_steps, read_by, reads_made}
use Rattle.ob_recover.proofs.ShownOpening.{openings_are_scheduled}

-- ---- the events of a batch's notes

abbrev cells_of_picked : Params → List Version → List Picked → List ℕ
cells_of_picked p versions qs = map (λ j. j.cell) (map (job_of p versions) qs)

place_read : (p : Params) (versions : List Version) (qs : List Picked) → events_of (map (λ q. note.Read (job_of p versions q).cell) qs) ≡ reads_made (cells_of_picked p versions qs)
place_read p versions [] = refl
place_read p versions (q ∷ qs) = ap (λ (es : List Event). event.Read (job_of p versions q).cell ∷ es) (place_read p versions qs)

picked_append : (p : Params) (versions : List Version) (xs ys : List Picked) → cells_of_picked p versions (xs ++ ys) ≡ cells_of_picked p versions xs ++ cells_of_picked p versions ys
picked_append p versions [] ys = refl
picked_append p versions (x ∷ xs) ys = ap (λ (cs : List ℕ). (job_of p versions x).cell ∷ cs) (picked_append p versions xs ys)

pub batch_read : (p : Params) (versions : List Version) (t : FlatTable) (asked : List (Option ℕ × ℕ)) → events_of (repeated_notes p versions t asked) ≡ reads_made (batch_cells p versions t asked)
batch_read p versions t [] = refl
batch_read p versions t (a ∷ rest) =
    let t1 : FlatTable = after_place p t a.0 a.1 in
    let qs : List Picked = place_picked p t a.0 a.1 in
    events_join (place_notes p versions t a) (repeated_notes p versions t1 rest)
    ∙ (λ i. place_read p versions qs i ++ batch_read p versions t1 rest i)
    ∙ sym (map-append (λ cell. event.Read cell) (cells_of_picked p versions qs) (batch_cells p versions t1 rest))
    ∙ ap reads_made (sym (picked_append p versions qs (batch_picked p t1 rest)))

-- ---- the notes of a call, as a row of steps

module _ (most : ℕ) where
  -- steps one by one
  pub row_step : (xs : List Note) (a b : Option (List Event)) → HasLane most xs → Notes (events_of xs) a b → IsRowShown most (phases_of xs) xs xs a b
  row_step xs a b has seen = record { all = refl; seen = made_steps most xs a b has seen }

  -- reads that lanes share
  pub row_read : (cells : List ℕ) (xs : List Note) (a b : Option (List Event)) → ReadByLanes most cells a b → IsRowShown most (Reads cells ∷ []) xs xs a b
  row_read cells xs a b read = record { all = refl; seen = made_read most cells a b read }

  pub row_then : (ps qs : List Phase) (xs ss ys ts : List Note) (a b c : Option (List Event)) → IsRowShown most ps xs ss a b → IsRowShown most qs ys ts b c → IsRowShown most (ps ++ qs) (xs ++ ys) (ss ++ ts) a c
  row_then ps qs xs ss ys ts a b c first second = record { all = λ i. first.all i ++ second.all i; seen = made_join most ps qs a b c first.seen second.seen }

  pub row_as : (ps qs : List Phase) (xs ys ss : List Note) (a b : Option (List Event)) → ps ≡ qs → xs ≡ ys → IsRowShown most ps xs ss a b → IsRowShown most qs ys ss a b
  row_as ps qs xs ys ss a b alike same shown =
      subst (λ (ns : List Note). IsRowShown most qs ns ss a b) same (subst (λ (rs : List Phase). IsRowShown most rs xs ss a b) alike shown)

  -- all of it, whose steps are the phases'
  pub front_all : (ps : List Phase) (xs ss : List Note) (a b : Option (List Event)) → events_of_phases ps ≡ events_of xs → IsRowShown most ps xs ss a b → IsFrontShown most ps xs ss a b
  front_all ps xs ss a b same shown = record {
    made = xs;
    cut = subst (λ (ns : List Note). IsCut xs xs ns) (sym shown.all) (cut_none xs);
    first = ps;
    rest = [];
    split = sym (append-nil ps);
    same = same;
    seen = shown.seen;
  }

  -- nothing of it
  pub front_none : (ps : List Phase) (xs : List Note) (a b : Option (List Event)) → Notes [] a b → IsFrontShown most ps xs [] a b
  front_none ps xs a b seen = record { made = []; cut = cut_more [] xs [] [] (cut_none []); first = []; rest = ps; split = refl; same = refl; seen = made_none most a b seen }

  pub front_step : (xs : List Note) (a b : Option (List Event)) (k l : Trace) → HasLane most xs → (first : TellsFirst xs a b k l) → IsFrontShown most (phases_of xs) xs first.shown a b
  front_step xs a b k l has first =
      let n : ℕ = (first.cut).count in
      let later : List Note = drop n xs in
      let parts : xs ≡ first.made ++ later = sym (take-append-drop n xs) ∙ ap (λ (ns : List Note). ns ++ later) (sym (first.cut).made_are) in
      record {
        made = first.made;
        cut = first.cut;
        first = phases_of first.made;
        rest = phases_of later;
        split = ap phases_of parts ∙ phases_append first.made later;
        same = steps_phased first.made;
        seen = made_steps most first.made a b (has_first most first.made later (subst (HasLane most) parts has)) (first.tells).seen;
      }

  pub front_more : (ps qs : List Phase) (xs ys ss : List Note) (a b : Option (List Event)) → IsFrontShown most ps xs ss a b → IsFrontShown most (ps ++ qs) (xs ++ ys) ss a b
  front_more ps qs xs ys ss a b front = record {
    made = front.made;
    cut = cut_more xs ys front.made ss front.cut;
    first = front.first;
    rest = front.rest ++ qs;
    split = ap (λ (rs : List Phase). rs ++ qs) front.split ∙ append_assoc front.first front.rest qs;
    same = front.same;
    seen = front.seen;
  }

  pub front_then : (ps qs : List Phase) (xs ss ys ts : List Note) (a b c : Option (List Event)) → events_of_phases ps ≡ events_of xs → IsRowShown most ps xs ss a b → IsFrontShown most qs ys ts b c
      → IsFrontShown most (ps ++ qs) (xs ++ ys) (ss ++ ts) a c
  front_then ps qs xs ss ys ts a b c same before front = record {
    made = xs ++ front.made;
    cut = subst (λ (ns : List Note). IsCut (xs ++ ys) (xs ++ front.made) (ns ++ ts)) (sym before.all) (cut_behind xs ys front.made ts front.cut);
    first = ps ++ front.first;
    rest = front.rest;
    split = ap (λ (rs : List Phase). ps ++ rs) front.split ∙ sym (append_assoc ps front.first front.rest);
    same = phases_join ps front.first ∙ (λ i. same i ++ front.same i) ∙ sym (events_join xs front.made);
    seen = made_join most ps front.first a b c before.seen front.seen;
  }

  pub front_as : (ps qs : List Phase) (xs ys ss : List Note) (a b : Option (List Event)) → ps ≡ qs → xs ≡ ys → IsFrontShown most ps xs ss a b → IsFrontShown most qs ys ss a b
  front_as ps qs xs ys ss a b alike same front =
      subst (λ (ns : List Note). IsFrontShown most qs ns ss a b) same (subst (λ (rs : List Phase). IsFrontShown most rs xs ss a b) alike front)

pub phases_are_joined : PhasesJoin
phases_are_joined = record {
  made = λ most first later old mid new one two. made_join most first later old mid new one two;
  read = λ most cells old new. (made_read most cells old new, read_by most cells old new);
  shown = λ most ps qs xs ss ys ts old mid new one two. row_then most ps qs xs ss ys ts old mid new one two;
}

-- ---- two rows, one behind the other

both_told : (most : ℕ) (ps qs : List Phase) (xs ys : List Note) (a b c : Option (List Event)) (k l m : Trace) → AreTold most ps xs a b k l → AreTold most qs ys b c l m → AreTold most (ps ++ qs) (xs ++ ys) a c k m
both_told most ps qs xs ys a b c k l m first second = record { shows = shows_then xs ys k l m first.shows second.shows; seen = made_join most ps qs a b c first.seen second.seen }

step_told : (most : ℕ) (xs : List Note) (a b : Option (List Event)) (k l : Trace) → HasLane most xs → Tells xs xs a b k l → AreTold most (phases_of xs) xs a b k l
step_told most xs a b k l has made = record { shows = made.shows; seen = made_steps most xs a b has made.seen }

read_told : (most : ℕ) (cells : List ℕ) (xs : List Note) (a b : Option (List Event)) (k l : Trace) → ReadByLanes most cells a b → Shows xs k l → AreTold most (Reads cells ∷ []) xs a b k l
read_told most cells xs a b k l read shows = record { shows = shows; seen = made_read most cells a b read }

pub as_told : (most : ℕ) (ps qs : List Phase) (xs ys : List Note) (a b : Option (List Event)) (k l : Trace) → ps ≡ qs → xs ≡ ys → AreTold most ps xs a b k l → AreTold most qs ys a b k l
as_told most ps qs xs ys a b k l alike same told =
    subst (λ (ns : List Note). AreTold most qs ns a b k l) same (subst (λ (rs : List Phase). AreTold most rs xs a b k l) alike told)

-- the batches of an opening, one behind the other
pub turns_made : (most : ℕ) (batches : List (List ℕ)) (old new : Option (List Event)) → ReadInTurn most batches old new → ArePhasesMade most (map (λ cells. Reads cells) batches) old new
turns_made most [] old new none = made_none most old new none
turns_made most (cells ∷ rest) old new read =
    made_join most (Reads cells ∷ []) (map (λ xs. Reads xs) rest) old read.0 new (made_read most cells old read.0 read.1) (turns_made most rest read.0 new read.2)

module _ (most : ℕ) (some : 1 ≤ most) (p : Params) (c : Content) (epoch generation : ℕ) (found : Gates) (old mid new : Option (List Event)) (before between later : Trace)
    (begun : Tells (began_notes p epoch found generation) (began_notes p epoch found generation) old mid before between) where
  opening_told : (rs : List BatchRecord) → RepeatsTold most p c rs mid new between later → AreTold most (opened_phases p c rs epoch found generation) (opening_notes p c rs epoch found generation) old new before later
  opening_told rs told =
      let first : List Note = began_notes p epoch found generation in
      let notes : List Note = repeat_notes p c.versions (flat_of p c) rs in
      let cells : List (List ℕ) = repeat_cells p c.versions (flat_of p c) rs in
      both_told most (phases_of first) (map (λ xs. Reads xs) cells) first notes old mid new before between later
      (step_told most first old mid before between (has_some most some first) begun)
      (record { shows = told.shows; seen = turns_made most cells mid new told.seen })

pub openings_are_told : OpeningsAreTold
openings_are_told most p c rs epoch generation found shown known old mid new before between later some obeys fit has begun told =
    let scheduled = openings_are_scheduled p c rs epoch generation found shown known obeys fit has in
    as_told most _ _ _ _ old new before later scheduled.all_phases scheduled.whole (opening_told most some p c epoch generation found old mid new before between later begun rs told)

pub openings_are_cut : OpeningsAreCut
openings_are_cut most p c rs epoch generation found shown known old mid new before between later some obeys fit has begun first =
    let scheduled = openings_are_scheduled p c rs epoch generation found shown known obeys fit has in (
      first.count,
      first.few,
      as_told most _ _ _ _ old new before later (scheduled.phases first.count first.few) (scheduled.notes first.count first.few)
          (opening_told most some p c epoch generation found old mid new before between later begun (take first.count rs) first.told),
    )

pub batches_are_told : BatchesAreTold
batches_are_told most p c rs r epoch gates old mid new before between later obeys fit made shown =
    let written : List Note = append_notes p (suc epoch) r.batch in
    let reads : List Note = read_notes_of p c rs r in
    let cells : List ℕ = batch_cells p c.versions (table_after_records p (flat_of p c) rs) (asked_of_record p r) in
    let scheduled = batches_are_scheduled.own p c rs r epoch gates obeys fit in
    as_told most _ _ _ _ old new before later scheduled.phases scheduled.notes
    (both_told most (phases_of written) (Reads cells ∷ []) written reads old mid new before between later
    (step_told most written old mid before between (has_appended most p (suc epoch) r.batch) made) (read_told most cells reads mid new between later shown.0 shown.1))

pub ends_are_told : EndsAreTold
ends_are_told most p c rs epoch gates run c' old mid new before between later scheduled shown made =
    let refilled : List Note = refill_notes p (run.filled).versions (run.before).order in
    let closing : List Note = closing_notes p epoch gates in
    as_told most _ _ _ _ old new before later scheduled.phases scheduled.notes
    (both_told most (Reads (lifts_cells p c rs) ∷ []) (phases_of (refilled ++ closing)) (lifts_notes p c rs) (refilled ++ closing) old mid new before between later
    (read_told most (lifts_cells p c rs) (lifts_notes p c rs) old mid before between shown.0 shown.1)
    (step_told most (refilled ++ closing) mid new between later (has_join most refilled closing (has_refill most p (run.filled).versions (run.before).order) (has_closing most p epoch gates)) made))
