-- What an end shows is a row of notes; refused, what its answer says of it.
use Rattle.std.specs.Prelude.{◌≡◌, ◌≤◌, ◌⊎◌, ℕ, suc, ◌-◌, ◌%◌, Bool, List, [], ◌∷◌, ◌++◌, map, Option, None, Result, Ok, Err}
use Rattle.std.proofs.Common.{append_assoc, arith, inl, inr, length, length-append, refl, sym, ap, ◌∙◌, subst}
use Rattle.std.proofs.lemmas.List.{append-nil}
use Rattle.ob_base.specs.Layout.{checkpoint_cells}
use Rattle.ob_base.specs.declared.params.Params.{Params}
use Rattle.ob_base.specs.declared.fault.Fault.{Fault}
use Rattle.ob_base.specs.declared.fault.Fault.TheVariants as fault
use Rattle.ob_base.specs.declared.job.Job.{Job}
use Rattle.ob_recover.specs.Repeats.{BatchIsShown, NoneIsShown}
use Rattle.ob_recover.specs.Fronts.{AreFirstNotes}
use Rattle.ob_recover.specs.Ends.{refill_notes}
use Rattle.ob_recover.specs.Telling.{ArePhasesMade, IsFrontShown, IsRowShown}
use Rattle.ob_recover.proofs.Dealing.{HasLane, has_gate, has_join, has_prepared, has_refill, has_set, has_writes, made_as, made_join, made_read, made_steps}
use Rattle.ob_recover.proofs.Telling.{front_all, front_as, front_more, front_none, front_step, front_then, row_as, row_read, row_step, row_then}
use Rattle.ob_check.specs.Written.{area_of}
use Rattle.ob_ring.specs.Ring.{Kept}
use Rattle.ob_schedule.specs.Phases.{Phase, Reads, Syncs, Writes, cells_read, events_of_phases, phases_of, shared}
use Rattle.ob_schedule.specs.Schedule.{log_gates, writes_of}
use Rattle.ob_schedule.proofs.Phased.{phases_append}
use Rattle.ob_serial.specs.declared.vault.EndErr.{EndErr}
use Rattle.ob_serial.specs.declared.vault.EndErr.TheVariants as end
use Rattle.ob_store.specs.Calls.{Notes}
use Rattle.ob_store.specs.Lines.{Shows, Trace}
use Rattle.ob_store.specs.Runs.{from_on}
use Rattle.ob_store.specs.Told.{TellsFirst, events_of}
use Rattle.ob_store.specs.declared.event.Event.{Event}
use Rattle.ob_store.specs.declared.event.Event.TheVariants as event
use Rattle.ob_store.specs.declared.watch.Note.{Note}
use Rattle.ob_store.specs.declared.watch.Note.TheVariants as note
use Rattle.ob_store.proofs.Showing.{shows_then}
use Rattle.ob_twin.specs.Orders.{gate_notes, prepare_notes, set_notes, through_notes}
use Rattle.ob_twin.specs.Refused.{IsSetFault}
use Rattle.ob_twin.specs.Register.{gate_at, place_of}
use Rattle.ob_twin.specs.declared.set_err.SetErr.{SetErr}
use Rattle.ob_twin.specs.declared.set_err.SetErr.TheVariants as set
use Rattle.ob_twin.specs.declared.twin.Twin.TheVariants.{EPOCH}
use Rattle.ob_end.specs.Closings.{CloseDoes}
use Rattle.ob_end.specs.EndRuns.{MakeTells, end_err_of}
use Rattle.ob_end.specs.EndWrites.{end_write_notes}
use Rattle.ob_end.specs.Shown.{EndShows, IsGateShown, before_gate, up_to_gate}
use Rattle.ob_end.specs.Stops.{CloseStops, IsEpochLeft}
use Rattle.ob_seal.specs.declared.keys.Keys.{Keys}
use Rattle.ob_store.specs.Disk.{Disk, Image}
use Rattle.ob_end.proofs.Rows.{before_end, up_end}

-- the notes of jobs' reads are of just these reads, and read just their cells
pub reads_are : (js : List Job) → events_of (map (λ (j : Job). note.Read j.cell) js) ≡ map (λ cell. event.Read cell) (map (λ (j : Job). j.cell) js)
reads_are [] = refl
reads_are (j ∷ js) = ap (λ (es : List Event). event.Read j.cell ∷ es) (reads_are js)

pub cells_are : (js : List Job) → cells_read (map (λ (j : Job). note.Read j.cell) js) ≡ map (λ (j : Job). j.cell) js
cells_are [] = refl
cells_are (j ∷ js) = ap (λ (cs : List ℕ). j.cell ∷ cs) (cells_are js)

-- what an end writes needs no lane
pub has_written : (most : ℕ) (ring : Kept) (epoch : ℕ) → HasLane most (end_write_notes ring epoch)
has_written most ring epoch =
    let p : Params = ring.p in
    let check : List ℕ = from_on (area_of p epoch) (checkpoint_cells p) in
    let logs : List ℕ = log_gates p (suc epoch % 2) in
    has_join most (refill_notes p (ring.metas).versions (ring.metas).order) (writes_of check ++ (writes_of logs ++ note.Sync ∷ [])) (has_refill most p (ring.metas).versions (ring.metas).order)
    (has_join most (writes_of check) (writes_of logs ++ note.Sync ∷ []) (has_writes most check) (has_join most (writes_of logs) (note.Sync ∷ []) (has_writes most logs) tt))

-- some notes were shown, and of each such row with its phases they are what the answer says; and so much holds of them beside
abbrev pub IsToldOf : ℕ → List Note → (List Phase → List Note → Type 0) → (List Note → Type 0) → Option (List Event) → Option (List Event) → Trace → Trace → Result (Unit {0}) EndErr → Type 0
IsToldOf most lifts Of Beside a b k l result = (shown : List Note) × Shows shown k l × ((phases : List Phase) (row : List Note) → Of phases row → EndShows most lifts phases row shown a b result) × Beside shown

-- by another name of the lifts, and of the answer
pub lifts_as : (most : ℕ) (xs ys : List Note) (phases : List Phase) (row shown : List Note) (a b : Option (List Event)) (result : Result (Unit {0}) EndErr) → xs ≡ ys → EndShows most xs phases row shown a b result → EndShows most ys phases row shown a b result
lifts_as most xs ys phases row shown a b result same is = subst (λ (ns : List Note). EndShows most ns phases row shown a b result) same is

pub refused_as : (most : ℕ) (lifts : List Note) (phases : List Phase) (row shown : List Note) (a b : Option (List Event)) (e e' : EndErr) → e ≡ e' → EndShows most lifts phases row shown a b (Err e) → EndShows most lifts phases row shown a b (Err e')
refused_as most lifts phases row shown a b e e' same is = subst (λ (x : EndErr). EndShows most lifts phases row shown a b (Err x)) same is

-- a row whose first notes are the lifts', before its gate, and its first phase their reads
pub record IsLed (cells : List ℕ) (notes : List Note) (phases : List Phase) (row : List Note) : Type 0 where
  pub steps : AreFirstNotes notes (before_gate row)
  pub rest : List Phase
  pub phases_are : before_gate phases ≡ Reads cells ∷ rest

module _ (most : ℕ) (cells : List ℕ) (notes : List Note) (reads : events_of notes ≡ map (λ cell. event.Read cell) cells) (own : cells_read notes ≡ cells) where
  lifts_row : (a b : Option (List Event)) (k l : Trace) → BatchIsShown most cells notes a b k l → IsRowShown most (Reads cells ∷ []) notes notes a b
  lifts_row a b k l shown = row_read most cells notes a b shown.0

  -- by the cells that the notes read
  lifts_shared : (a b : Option (List Event)) (k l : Trace) → BatchIsShown most cells notes a b k l → IsRowShown most (shared notes ∷ []) notes notes a b
  lifts_shared a b k l shown = row_as most (Reads cells ∷ []) (shared notes ∷ []) notes notes notes a b (ap (λ (cs : List ℕ). Reads cs ∷ []) (sym own)) refl (lifts_row a b k l shown)

  same_steps : events_of_phases (Reads cells ∷ []) ≡ events_of notes
  same_steps = append-nil (map (λ cell. event.Read cell) cells) ∙ sym reads

  -- ---- refused before anything was written

  abbrev Led : List Phase → List Note → Type 0
  Led phases row = IsLed cells notes phases row

  -- no more than the lifts were shown
  abbrev Few : List Note → Type 0
  Few shown = length shown ≤ length notes

  module _ (a b : Option (List Event)) (k l : Trace) where
    lifts_told : BatchIsShown most cells notes a b k l → (shown : List Note) × Shows shown k l × ((phases : List Phase) (row : List Note) → Led phases row → IsRowShown most (shared notes ∷ []) notes shown a b) × Few shown
    lifts_told shown = (notes, shown.1, (λ phases row led. lifts_shared a b k l shown), omega arith)

    lifts_front : (phases : List Phase) (row : List Note) → Led phases row → IsRowShown most (Reads cells ∷ []) notes notes a b → IsFrontShown most (before_gate phases) (before_gate row) notes a b
    lifts_front phases row led shown = front_as most (Reads cells ∷ led.rest) (before_gate phases) (notes ++ (led.steps).0) (before_gate row) notes a b (sym led.phases_are) (sym (led.steps).1)
        (front_more most (Reads cells ∷ []) led.rest notes (led.steps).0 notes a b (front_all most (Reads cells ∷ []) notes notes a b same_steps shown))

    store_told : (unsure : Option ℕ) → BatchIsShown most cells notes a b k l ⊎ NoneIsShown a b k l → IsToldOf most notes Led Few a b k l (Err (end.Before (fault.StoreFault unsure)))
    store_told unsure (inl shown) = (notes, shown.1, (λ phases row led. lifts_front phases row led (lifts_row a b k l shown)), omega arith)
    store_told unsure (inr none) = ([], none.1, (λ phases row led. front_none most (before_gate phases) (before_gate row) a b none.0), omega arith)

    worn_told : (number : ℕ) → BatchIsShown most cells notes a b k l ⊎ NoneIsShown a b k l → IsToldOf most notes Led Few a b k l (Err (end.Before (fault.Worn number)))
    worn_told number (inl shown) = (notes, shown.1, (λ phases row led. inr (lifts_shared a b k l shown)), omega arith)
    worn_told number (inr none) = ([], none.1, (λ phases row led. inl (row_step most [] a b tt none.0)), omega arith)

    pub made_told : (f : Fault) → MakeTells most cells notes a b k l (Err f) → IsToldOf most notes Led Few a b k l (Err (end.Before f))
    made_told fault.Memory told = lifts_told told
    made_told fault.Usage told = lifts_told told
    made_told (fault.BadScript line) told = lifts_told told
    made_told (fault.BadParams what) told = lifts_told told
    made_told fault.NotStore told = lifts_told told
    made_told (fault.Damaged cell what kept computed) told = lifts_told told
    made_told (fault.StoreFault unsure) told = store_told unsure told
    made_told (fault.StashFull rows) told = lifts_told told
    made_told (fault.Worn number) told = worn_told number told
    made_told fault.SourceFault told = lifts_told told
    made_told fault.SinkFault told = lifts_told told

  -- ---- behind the lifts

  module _ (writes : List Note) (has : HasLane most writes) (closes : Bool) (epoch : ℕ) (a m b : Option (List Event)) (k j l : Trace) (lifts : BatchIsShown most cells notes a m k j) where
    abbrev last : List Note
    last = writes ++ set_notes closes 5 epoch

    abbrev pub IsAll : List Phase → List Note → Type 0
    IsAll phases row = (notes ++ last ≡ row) × (Reads cells ∷ phases_of last ≡ phases)

    has_last : HasLane most last
    has_last = has_join most writes (set_notes closes 5 epoch) has (has_set most closes 5 epoch)

    pub closed_told : CloseDoes writes closes epoch m b j l (Ok tt) → IsToldOf most notes IsAll (λ shown. Unit {0}) a b k l (Ok tt)
    closed_told does = (
      notes ++ last,
      shows_then notes last k j l lifts.1 does.shows,
      (λ phases row whole. row_as most (Reads cells ∷ phases_of last) phases (notes ++ last) row (notes ++ last) a b whole.1 whole.0
          (row_then most (Reads cells ∷ []) (phases_of last) notes notes last last a m b (lifts_row a m k j lifts) (row_step most last m b has_last does.seen))),
      tt,
    )

    -- the register's gate, what is written before it, and that with its write
    abbrev opens : Note
    opens = note.Write (gate_at 5 (place_of epoch))

    abbrev prepared : List Note
    prepared = writes ++ prepare_notes closes 5 epoch

    abbrev gate : List Note
    gate = writes ++ gate_notes closes 5 epoch

    parts : (notes ++ prepared) ++ opens ∷ note.Sync ∷ [] ≡ notes ++ last
    parts =
        append_assoc notes prepared (through_notes (gate_at 5 (place_of epoch)))
        ∙ ap (λ (ns : List Note). notes ++ ns) (append_assoc writes (prepare_notes closes 5 epoch) (through_notes (gate_at 5 (place_of epoch))))

    before_is : before_gate (notes ++ last) ≡ notes ++ prepared
    before_is = ap (λ (ns : List Note). before_gate ns) (sym parts) ∙ before_end (notes ++ prepared) opens note.Sync

    up_is : up_to_gate (notes ++ last) ≡ notes ++ gate
    up_is =
        ap (λ (ns : List Note). up_to_gate ns) (sym parts) ∙ up_end (notes ++ prepared) opens note.Sync
        ∙ append_assoc notes prepared (opens ∷ [])
        ∙ ap (λ (ns : List Note). notes ++ ns) (append_assoc writes (prepare_notes closes 5 epoch) (opens ∷ []))

    -- the same of the phases
    abbrev opened : Phase
    opened = Writes (gate_at 5 (place_of epoch) ∷ [])

    phase_parts : (Reads cells ∷ phases_of prepared) ++ opened ∷ Syncs ∷ [] ≡ Reads cells ∷ phases_of last
    phase_parts =
        ap (λ (ps : List Phase). Reads cells ∷ ps)
        (sym (phases_append prepared (through_notes (gate_at 5 (place_of epoch)))) ∙ ap phases_of (append_assoc writes (prepare_notes closes 5 epoch) (through_notes (gate_at 5 (place_of epoch)))))

    before_in_phases : before_gate (Reads cells ∷ phases_of last) ≡ Reads cells ∷ phases_of prepared
    before_in_phases = ap (λ (ps : List Phase). before_gate ps) (sym phase_parts) ∙ before_end (Reads cells ∷ phases_of prepared) opened Syncs

    up_in_phases : up_to_gate (Reads cells ∷ phases_of last) ≡ Reads cells ∷ phases_of gate
    up_in_phases =
        ap (λ (ps : List Phase). up_to_gate ps) (sym phase_parts) ∙ up_end (Reads cells ∷ phases_of prepared) opened Syncs
        ∙ ap (λ (ps : List Phase). Reads cells ∷ ps) (sym (phases_append prepared (opens ∷ [])) ∙ ap phases_of (append_assoc writes (prepare_notes closes 5 epoch) (opens ∷ [])))

    -- of each such row so much holds, by how many of its notes lack
    abbrev Lacking : (ℕ → Type 0) → List Note → Type 0
    Lacking Left shown = (row : List Note) → notes ++ last ≡ row → Left (length row - length shown)

    -- as many lack as behind the lifts
    lacks : (Left : ℕ → Type 0) (shown : List Note) (lacking : ℕ) → lacking ≡ length last - length shown → Left lacking → Lacking Left (notes ++ shown)
    lacks Left shown lacking is left row whole =
        let all = sym (ap length whole) ∙ length-append notes last in
        let some = length-append notes shown in
        let many : lacking ≡ length row - length (notes ++ shown) = omega (arith, all, some, is) in
        subst Left many left

    -- refused before the gate
    cut_before : (Left : ℕ → Type 0) (unsure : Option ℕ) (first : TellsFirst prepared m b j l) → Left (length last - length first.shown) → IsToldOf most notes IsAll (Lacking Left) a b k l (Err (end.Before (fault.StoreFault unsure)))
    cut_before Left unsure first left = (
      notes ++ first.shown,
      shows_then notes first.shown k j l lifts.1 (first.tells).shows,
      (λ phases row whole. front_as most (Reads cells ∷ phases_of prepared) (before_gate phases) (notes ++ prepared) (before_gate row) (notes ++ first.shown) a b
          (sym before_in_phases ∙ ap (λ (ps : List Phase). before_gate ps) whole.1) (sym before_is ∙ ap (λ (ns : List Note). before_gate ns) whole.0)
          (front_then most (Reads cells ∷ []) (phases_of prepared) notes notes prepared first.shown a m b same_steps (lifts_row a m k j lifts)
          (front_step most prepared m b j l (has_join most writes (prepare_notes closes 5 epoch) has (has_prepared most closes 5 epoch)) first))),
      lacks Left first.shown (length last - length first.shown) refl left,
    )

    -- with the lifts before them
    behind : (ys : List Note) → HasLane most ys → Notes (events_of ys) m b → ArePhasesMade most (Reads cells ∷ phases_of ys) a b
    behind ys lane seen = made_join most (Reads cells ∷ []) (phases_of ys) a m b (made_read most cells a m lifts.0) (made_steps most ys m b lane seen)

    gate_shown : ArePhasesMade most (Reads cells ∷ phases_of gate) a b ⊎ ArePhasesMade most (Reads cells ∷ phases_of last) a b → (phases : List Phase) (row : List Note) → IsAll phases row → IsGateShown most phases row (notes ++ gate) a b
    gate_shown either phases row whole = record { all = sym up_is ∙ ap (λ (ns : List Note). up_to_gate ns) whole.0; seen = seen_by either }
      where
        seen_by : ArePhasesMade most (Reads cells ∷ phases_of gate) a b ⊎ ArePhasesMade most (Reads cells ∷ phases_of last) a b → ArePhasesMade most (up_to_gate phases) a b ⊎ ArePhasesMade most phases a b
        seen_by (inl one) = inl (made_as most (Reads cells ∷ phases_of gate) (up_to_gate phases) a b (sym up_in_phases ∙ ap (λ (ps : List Phase). up_to_gate ps) whole.1) one)
        seen_by (inr all) = inr (made_as most (Reads cells ∷ phases_of last) phases a b whole.1 all)

    -- or left unsure
    one_lacks : 1 ≡ length last - length gate
    one_lacks =
        let set = length-append (prepare_notes closes 5 epoch) (through_notes (gate_at 5 (place_of epoch))) in
        let opening = length-append (prepare_notes closes 5 epoch) (opens ∷ []) in
        omega (arith, set, opening, length-append writes (set_notes closes 5 epoch), length-append writes (gate_notes closes 5 epoch))

    cut_unsure : (Left : ℕ → Type 0) (f : Fault) → CloseDoes writes closes epoch m b j l (Err (set.Unsure f)) → Left 1 → IsToldOf most notes IsAll (Lacking Left) a b k l (Err (end.Unsure f))
    cut_unsure Left f (inl one) left = (
      notes ++ gate,
      shows_then notes gate k j l lifts.1 one.shows,
      gate_shown (inl (behind gate (has_join most writes (gate_notes closes 5 epoch) has (has_gate most closes 5 epoch)) one.seen)),
      lacks Left gate 1 one_lacks left,
    )
    cut_unsure Left f (inr all) left = (notes ++ gate, shows_then notes gate k j l lifts.1 all.shows, gate_shown (inr (behind last has_last all.seen)), lacks Left gate 1 one_lacks left)

    -- what was made and shown, and what is left by that
    abbrev pub IsCutShort : (ℕ → Type 0) → SetErr → Type 0
    IsCutShort Left (set.Before f) = (first : TellsFirst prepared m b j l) × Left (length last - length first.shown)
    IsCutShort Left (set.Unsure f) = CloseDoes writes closes epoch m b j l (Err (set.Unsure f)) × Left 1

    pub cut_short : (Left : ℕ → Type 0) (n : ℕ) (x : SetErr) → IsSetFault EPOCH n x → IsCutShort Left x → IsToldOf most notes IsAll (Lacking Left) a b k l (Err (end_err_of x))
    cut_short Left n (set.Before f) is cut = subst (λ (y : Fault). IsToldOf most notes IsAll (Lacking Left) a b k l (Err (end.Before y))) (sym is) (cut_before Left None cut.0 cut.1)
    cut_short Left n (set.Unsure f) is cut = cut_unsure Left f cut.0 cut.1

-- by what the set of the register leaves
pub short_of : (most : ℕ) (cells : List ℕ) (notes : List Note) (reads : events_of notes ≡ map (λ cell. event.Read cell) cells) (own : cells_read notes ≡ cells) (keys : Keys) (writes : List Note) (has : HasLane most writes) (closes : Bool) (epoch : ℕ) (a : Option (List Event)) (mid new : Disk) (k j l : Trace)
    (lifts : BatchIsShown most cells notes a mid.seen k j) (x : SetErr) → CloseDoes writes closes epoch mid.seen new.seen j l (Err x) → CloseStops keys writes closes epoch mid new j l (Err x)
    → IsCutShort most cells notes reads own writes has closes epoch a mid.seen new.seen k j l lifts (λ lacking. (c : Image) → new.may_leave c → IsEpochLeft keys closes epoch mid lacking c) x
short_of most cells notes reads own keys writes has closes epoch a mid new k j l lifts (set.Before f) does stops = (stops.first, stops.left)
short_of most cells notes reads own keys writes has closes epoch a mid new k j l lifts (set.Unsure f) does stops = (does, stops)
