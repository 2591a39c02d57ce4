-- Phases that are made in turn: how they join, what one lane makes of them, and steps that are made one by one.
use Rattle.std.specs.Prelude.{◌≡◌, ℕ, zero, suc, ◌+◌, ◌<◌, ◌≤◌, ◌%◌, ◌==◌, Bool, true, false, cond, List, [], ◌∷◌, ◌++◌, map, filter, length, take, drop, Option, Some, slice_index}
use Rattle.std.specs.List.{flat_map, range_with_len}
use Rattle.std.proofs.Common.{arith, refl, sym, ap, subst, ◌∙◌, append_assoc}
use Rattle.std.proofs.lemmas.Bool.{eq-eqb}
use Rattle.std.proofs.lemmas.List.{append-nil}
use Rattle.ob_base.specs.declared.params.Params.{Params}
use Rattle.ob_base.specs.Layout.{checkpoint_cells, log_cell, log_gate, record_cells, slot_cell}
use Rattle.ob_base.specs.Tree.{below, width}
use Rattle.ob_cells.specs.Lanes.{ReadByLanes, reads_of_lane, reads_of_lanes}
use Rattle.ob_check.specs.Written.{area_of}
use Rattle.ob_log.specs.Appends.{append_notes}
use Rattle.ob_schedule.specs.Phases.{Phase, Reads, Writes, Syncs, events_of_phases, phase_events, phases_of}
use Rattle.ob_schedule.specs.Schedule.{log_gates, writes_of}
use Rattle.ob_store.specs.Calls.{Notes}
use Rattle.ob_store.specs.Runs.{from_on, write_notes}
use Rattle.ob_store.specs.Told.{events_of}
use Rattle.ob_store.specs.declared.event.Event.{Event}
use Rattle.ob_store.specs.declared.event.Event.TheVariants as event
use Rattle.ob_store.specs.declared.watch.Note.{Note}
use Rattle.ob_store.specs.declared.watch.Note.TheVariants as note
use Rattle.ob_store.proofs.Events.{joined}
use Rattle.ob_tables.specs.Buckets.{version_at}
use Rattle.ob_tables.specs.Version.{Version}
use Rattle.ob_twin.specs.Opening.{is_closed_first}
use Rattle.ob_twin.specs.Orders.{gate_notes, prepare_notes, set_notes, through_notes}
use Rattle.ob_twin.specs.Register.{gate_at, place_of}
use Rattle.ob_twin.specs.declared.gates.Gates.{Gates}
use Rattle.ob_recover.specs.Ends.{closing_notes, refill_notes}
use Rattle.ob_recover.specs.Telling.{AreDealt, ArePhasesMade, IsDealt, OneLaneAsPlanned, OneLaneInOrder}
use Rattle.ob_recover.proofs.Fills.{items_of}

abbrev pub reads_made : List ℕ → List Event
reads_made cells = map (λ cell. event.Read cell) cells

-- ---- one lane

-- the numbers of a list that is all of one lane
all_of : (lane_of : ℕ → ℕ) (a n : ℕ) → ((i : ℕ) → a ≤ i → i < a + n → lane_of i ≡ 0) → filter (λ i. lane_of i == 0) (range_with_len a n) ≡ range_with_len a n
all_of lane_of a zero own = refl
all_of lane_of a (suc n) own =
    ap (λ (b : Bool). cond b (a ∷ filter (λ i. lane_of i == 0) (range_with_len (a + 1) n)) (filter (λ i. lane_of i == 0) (range_with_len (a + 1) n))) (eq-eqb (lane_of a) 0 (own a (omega arith) (omega arith)))
    ∙ ap (λ (is : List ℕ). a ∷ is) (all_of lane_of (a + 1) n (λ i le lt. own i (omega arith) (omega arith)))

events_at : (cells is : List ℕ) → map (λ i. event.Read (slice_index cells i)) is ≡ reads_made (map (λ i. slice_index cells i) is)
events_at cells [] = refl
events_at cells (i ∷ is) = ap (λ (es : List Event). event.Read (slice_index cells i) ∷ es) (events_at cells is)

first_lane : (lane_of : ℕ → ℕ) (cells : List ℕ) → ((i : ℕ) → i < length cells → lane_of i ≡ 0) → reads_of_lane lane_of cells 0 ≡ reads_made cells
first_lane lane_of cells own =
    ap (λ (is : List ℕ). map (λ i. event.Read (slice_index cells i)) is) (all_of lane_of 0 (length cells) (λ i le lt. own i (omega arith)))
    ∙ events_at cells (below (length cells)) ∙ ap reads_made (items_of cells)

in_lanes : (lanes : ℕ) (lane_of : ℕ → ℕ) (cells : List ℕ) → lanes ≤ 1 → ((i : ℕ) → i < length cells → lane_of i < lanes) → reads_of_lanes lanes lane_of cells ≡ reads_made cells
in_lanes zero lane_of [] few within = refl
in_lanes zero lane_of (cell ∷ cells) few within = absurd (let none : lane_of 0 < 0 = within 0 (omega arith) in omega arith)
in_lanes (suc zero) lane_of cells few within = append-nil (reads_of_lane lane_of cells 0) ∙ first_lane lane_of cells (λ i lt. (let one : lane_of i < 1 = within i lt in omega arith))
in_lanes (suc (suc n)) lane_of cells few within = absurd (omega arith)

pub one_lane_in_order : OneLaneInOrder
one_lane_in_order most cells old new few read = subst (λ (es : List Event). Notes es old new) (in_lanes read.lanes read.lane_of cells (omega (arith, read.few, few)) read.within) read.seen

dealt_planned : (most : ℕ) → most ≤ 1 → (phases : List Phase) (events : List Event) → AreDealt most phases events → events ≡ events_of_phases phases
dealt_planned most few [] events none = none
dealt_planned most few (Reads cells ∷ phases) events (first, rest, is, dealt, more) =
    is ∙ (λ i. one_lane_in_order most cells (Some []) (Some first) few dealt i ++ dealt_planned most few phases rest more i)
dealt_planned most few (Writes cells ∷ phases) events (rest, is, more) = is ∙ ap (λ (es : List Event). phase_events (Writes cells) ++ es) (dealt_planned most few phases rest more)
dealt_planned most few (Syncs ∷ phases) events (rest, is, more) = is ∙ ap (λ (es : List Event). phase_events Syncs ++ es) (dealt_planned most few phases rest more)

pub one_lane_as_planned : OneLaneAsPlanned
one_lane_as_planned most phases old new few made = subst (λ (es : List Event). Notes es old new) (dealt_planned most few phases made.events made.dealt) made.noted

-- ---- joined

pub dealt_join : (most : ℕ) (xs ys : List Phase) (es fs : List Event) → AreDealt most xs es → AreDealt most ys fs → AreDealt most (xs ++ ys) (es ++ fs)
dealt_join most [] ys es fs none later = subst (λ (l : List Event). AreDealt most ys (l ++ fs)) (sym none) later
dealt_join most (Reads cells ∷ xs) ys es fs (first, rest, is, dealt, more) later =
    (first, rest ++ fs, ap (λ (l : List Event). l ++ fs) is ∙ append_assoc first rest fs, dealt, dealt_join most xs ys rest fs more later)
dealt_join most (Writes cells ∷ xs) ys es fs (rest, is, more) later =
    (rest ++ fs, ap (λ (l : List Event). l ++ fs) is ∙ append_assoc (phase_events (Writes cells)) rest fs, dealt_join most xs ys rest fs more later)
dealt_join most (Syncs ∷ xs) ys es fs (rest, is, more) later =
    (rest ++ fs, ap (λ (l : List Event). l ++ fs) is ∙ append_assoc (phase_events Syncs) rest fs, dealt_join most xs ys rest fs more later)

module _ (most : ℕ) where
  pub made_join : (xs ys : List Phase) (a b c : Option (List Event)) → ArePhasesMade most xs a b → ArePhasesMade most ys b c → ArePhasesMade most (xs ++ ys) a c
  made_join xs ys a b c first later = record {
    events = first.events ++ later.events;
    dealt = dealt_join most xs ys first.events later.events first.dealt later.dealt;
    noted = joined first.events later.events a b c first.noted later.noted;
  }

  pub made_none : (a b : Option (List Event)) → Notes [] a b → ArePhasesMade most [] a b
  made_none a b none = record { events = []; dealt = refl; noted = none }

  pub made_read : (cells : List ℕ) (a b : Option (List Event)) → ReadByLanes most cells a b → ArePhasesMade most (Reads cells ∷ []) a b
  made_read cells a b read =
      let events : List Event = reads_of_lanes read.lanes read.lane_of cells in
      let dealt : IsDealt most cells events = record { lanes = read.lanes; few = read.few; lane_of = read.lane_of; within = read.within; seen = refl } in
      record { events = events; dealt = (events, [], sym (append-nil events), dealt, refl); noted = read.seen }

  pub read_by : (cells : List ℕ) (a b : Option (List Event)) → ArePhasesMade most (Reads cells ∷ []) a b → ReadByLanes most cells a b
  read_by cells a b made = by made.dealt
    where
      by : AreDealt most (Reads cells ∷ []) made.events → ReadByLanes most cells a b
      by (first, rest, is, dealt, none) = record {
        lanes = dealt.lanes;
        few = dealt.few;
        lane_of = dealt.lane_of;
        within = dealt.within;
        seen = subst (λ (es : List Event). Notes es a b) (is ∙ ap (λ (es : List Event). first ++ es) none ∙ append-nil first ∙ dealt.seen) made.noted;
      }

  pub made_as : (xs ys : List Phase) (a b : Option (List Event)) → xs ≡ ys → ArePhasesMade most xs a b → ArePhasesMade most ys a b
  made_as xs ys a b same made = subst (λ (ps : List Phase). ArePhasesMade most ps a b) same made

  -- ---- one by one

  -- there is a lane where a step reads
  abbrev pub HasLane : List Note → Type 0
  HasLane [] = Unit {0}
  HasLane (note.Label leaf ∷ notes) = HasLane notes
  HasLane (note.Read cell ∷ notes) = (1 ≤ most) × HasLane notes
  HasLane (note.Write cell ∷ notes) = HasLane notes
  HasLane (note.Sync ∷ notes) = HasLane notes

  one_cell : (cell : ℕ) → 1 ≤ most → IsDealt most (cell ∷ []) (event.Read cell ∷ [])
  one_cell cell some = record { lanes = 1; few = some; lane_of = λ i. 0; within = λ i lt. omega arith; seen = refl }

  dealt_steps : (notes : List Note) → HasLane notes → AreDealt most (phases_of notes) (events_of notes)
  dealt_steps [] has = refl
  dealt_steps (note.Label leaf ∷ notes) has = dealt_steps notes has
  dealt_steps (note.Read cell ∷ notes) has = (event.Read cell ∷ [], events_of notes, refl, one_cell cell has.0, dealt_steps notes has.1)
  dealt_steps (note.Write cell ∷ notes) has = (events_of notes, refl, dealt_steps notes has)
  dealt_steps (note.Sync ∷ notes) has = (events_of notes, refl, dealt_steps notes has)

  pub made_steps : (notes : List Note) (a b : Option (List Event)) → HasLane notes → Notes (events_of notes) a b → ArePhasesMade most (phases_of notes) a b
  made_steps notes a b has seen = record { events = events_of notes; dealt = dealt_steps notes has; noted = seen }

  pub has_some : 1 ≤ most → (notes : List Note) → HasLane notes
  has_some some [] = tt
  has_some some (note.Label leaf ∷ notes) = has_some some notes
  has_some some (note.Read cell ∷ notes) = (some, has_some some notes)
  has_some some (note.Write cell ∷ notes) = has_some some notes
  has_some some (note.Sync ∷ notes) = has_some some notes

  pub has_join : (xs ys : List Note) → HasLane xs → HasLane ys → HasLane (xs ++ ys)
  has_join [] ys first later = later
  has_join (note.Label leaf ∷ xs) ys first later = has_join xs ys first later
  has_join (note.Read cell ∷ xs) ys first later = (first.0, has_join xs ys first.1 later)
  has_join (note.Write cell ∷ xs) ys first later = has_join xs ys first later
  has_join (note.Sync ∷ xs) ys first later = has_join xs ys first later

  pub has_first : (xs ys : List Note) → HasLane (xs ++ ys) → HasLane xs
  has_first [] ys has = tt
  has_first (note.Label leaf ∷ xs) ys has = has_first xs ys has
  has_first (note.Read cell ∷ xs) ys has = (has.0, has_first xs ys has.1)
  has_first (note.Write cell ∷ xs) ys has = has_first xs ys has
  has_first (note.Sync ∷ xs) ys has = has_first xs ys has

  -- what only writes and syncs needs none
  pub has_writes : (cells : List ℕ) → HasLane (writes_of cells)
  has_writes [] = tt
  has_writes (cell ∷ cells) = has_writes cells

  pub has_appended : (p : Params) (epoch batch : ℕ) → HasLane (append_notes p epoch batch)
  has_appended p epoch batch =
      let cells : List ℕ = from_on (log_cell p (epoch % 2) batch 0) (record_cells p) in
      has_join (writes_of cells ++ note.Sync ∷ []) (note.Write (log_gate p (epoch % 2) batch) ∷ note.Sync ∷ []) (has_join (writes_of cells) (note.Sync ∷ []) (has_writes cells) tt) tt

  pub has_refill : (p : Params) (versions : List Version) (order : List ℕ) → HasLane (refill_notes p versions order)
  has_refill p versions [] = tt
  has_refill p versions (u ∷ order) =
      let cells : List ℕ = from_on (slot_cell p (version_at versions u).home u 0) (width p) in
      has_join (writes_of cells) (refill_notes p versions order) (has_writes cells) (has_refill p versions order)

  pub has_prepared : (closes : Bool) (first n : ℕ) → HasLane (prepare_notes closes first n)
  has_prepared true first n = tt
  has_prepared false first n = tt

  pub has_gate : (closes : Bool) (first n : ℕ) → HasLane (gate_notes closes first n)
  has_gate closes first n = has_join (prepare_notes closes first n) (note.Write (gate_at first (place_of n)) ∷ []) (has_prepared closes first n) tt

  pub has_set : (closes : Bool) (first n : ℕ) → HasLane (set_notes closes first n)
  has_set closes first n = has_join (prepare_notes closes first n) (through_notes (gate_at first (place_of n))) (has_prepared closes first n) tt

  pub has_closing : (p : Params) (epoch : ℕ) (gates : Gates) → HasLane (closing_notes p epoch gates)
  has_closing p epoch gates =
      let cells : List ℕ = from_on (area_of p (suc epoch)) (checkpoint_cells p) in
      let logs : List ℕ = log_gates p (suc (suc epoch) % 2) in
      let closes : Bool = is_closed_first gates.epoch (place_of (suc epoch)) in
      has_join (writes_of cells) (writes_of logs ++ ((note.Sync ∷ []) ++ set_notes closes 5 (suc epoch))) (has_writes cells)
      (has_join (writes_of logs) ((note.Sync ∷ []) ++ set_notes closes 5 (suc epoch)) (has_writes logs) (has_set closes 5 (suc epoch)))
