-- Runs that served or were refused are a row of runs, and so their lines are admitted.
use Rattle.std.specs.Prelude.{◌%◌, ◌+◌, Option, Err}
use Rattle.std.proofs.Common.{◌≡◌, ◌⊎◌, ◌∙◌, ◌<◌, ◌≤◌, ℕ, zero, suc, List, [], ◌∷◌, ◌++◌, length, take, inl, inr, append_assoc, ap, arith, length-append, refl, subst, sym}
use Rattle.std.proofs.lemmas.List.{length-take-le}
use Rattle.ob_base.specs.Repeats.{Has}
use Rattle.ob_base.specs.declared.fault.Fault.{Fault}
use Rattle.ob_base.specs.declared.fault.Fault.TheVariants as fault
use Rattle.ob_base.specs.declared.params.Params.{Params}
use Rattle.ob_opening.specs.OpeningActs.{IsLeftAt}
use Rattle.ob_opening.specs.OpeningRuns.{ReadsFirst, begun_notes}
use Rattle.ob_opening.specs.OpeningStops.{OpeningStops, StopsAt}
use Rattle.ob_recover.specs.Finds.{IsFoundInRing}
use Rattle.ob_recover.specs.Known.{fills_of, gates_open}
use Rattle.ob_recover.specs.Life.{WordId}
use Rattle.ob_recover.specs.Repeats.{repeat_notes}
use Rattle.ob_recover.specs.declared.found.Found.{Found}
use Rattle.ob_base.specs.Layout.{EpochTwin, GenerationTwin, LogArea}
use Rattle.ob_schedule.specs.Schedule.{before_repeats, begun_public, check_cells, gate_cell, head_notes, reads_of, region_cells, repeats, set_twin}
use Rattle.ob_seal.specs.declared.keys.Keys.{Keys}
use Rattle.ob_stand.specs.Stands.{ring_standing}
use Rattle.ob_stand.specs.Table.{flat_of}
use Rattle.ob_store.proofs.Showing.{shows_then}
use Rattle.ob_store.specs.Disk.{Disk, Image}
use Rattle.ob_store.specs.Images.{Passes, Same}
use Rattle.ob_store.specs.Lines.{Shows, Trace}
use Rattle.ob_store.specs.Told.{TellsFirst}
use Rattle.ob_store.specs.declared.event.Event.{Event}
use Rattle.ob_store.specs.declared.watch.Note.{Note}
use Rattle.ob_store.specs.declared.watch.Note.TheVariants.{Sync}
use Rattle.ob_tables.specs.Content.{content_of}
use Rattle.ob_twin.specs.Got.{DoesReads}
use Rattle.ob_twin.specs.Keyed.{tagging}
use Rattle.ob_twin.specs.Register.{StandsAt}
use Rattle.ob_vault.specs.Acts.{AreTapeWords}
use Rattle.ob_vault.specs.Joined.{AreGiven, AreRunsFrom, RunPart, Served, Stopped}
use Rattle.ob_vault.specs.KindShown.{steps_notes}
use Rattle.ob_vault.specs.Kinds.{Stands}
use Rattle.ob_vault.specs.Lives.{RingStops}
use Rattle.ob_vault.specs.RingKind.{ring_kind, ring_public}
use Rattle.ob_vault.specs.Seen.{opening_shows}
use Rattle.ob_admitted.proofs.Along.{stopped_runs}
use Rattle.ob_admitted.proofs.Bridging.{refused_heads, refused_openings}
use Rattle.ob_admitted.proofs.Shown.{cut_front, front_take}
use Rattle.ob_admitted.specs.Parts.{IsServedShown}
use Rattle.ob_admitted.specs.Refused.{notes_at, notes_of_reads, notes_of_stop}
use Rattle.ob_admitted.specs.Stopped.{AreAllShown, IsGateSure, IsNextBegun, IsStopShown, StopsBegun, StopsReading, begun_row, opening_row, public_of_found, reads_of_opening}
use Rattle.ob_top.proofs.Rowing.{part}
use Rattle.ob_top.specs.Parts.{head_cells}
use Rattle.ob_top.specs.Refusals.{AreGatesSure, AreRunsOrRefusals, CameToHead, BeganWithin, IsNextSyncedAt, RefusedRunsFit, StoppedInOpening, notes_when_stopped}
use Rattle.ob_top.specs.Rows.{AreRowsTold, AreTapesOf, IsRowRun, TracedRun}
use Rattle.ob_top.specs.Runs.{notes_of_head}

-- ---- syncs in rows of notes

has_take : {A : Type 0} (n : ℕ) (xs : List A) (x : A) → Has (take n xs) x → Has xs x
has_take zero xs x has = absurd has
has_take (suc n) [] x has = absurd has
has_take (suc n) (y ∷ ys) x (inl is) = inl is
has_take (suc n) (y ∷ ys) x (inr has) = inr (has_take n ys x has)

has_either : {A : Type 0} (xs ys : List A) (x : A) → Has (xs ++ ys) x → Has xs x ⊎ Has ys x
has_either [] ys x has = inr has
has_either (y ∷ xs) ys x (inl is) = inl (inl is)
has_either (y ∷ xs) ys x (inr has) = later (has_either xs ys x has)
  where
    later : Has xs x ⊎ Has ys x → Has (y ∷ xs) x ⊎ Has ys x
    later (inl here) = inl (inr here)
    later (inr there) = inr there

has_behind : {A : Type 0} (n : ℕ) (xs ys : List A) (x : A) → length xs < n → Has (take n (xs ++ x ∷ ys)) x
has_behind zero xs ys x few = absurd (omega (arith, few))
has_behind (suc n) [] ys x few = inl refl
has_behind (suc n) (y ∷ xs) ys x few = inr (has_behind n xs ys x (omega (arith, few)))

reads_none : (cells : List ℕ) → Has (reads_of cells) Sync → ⊥
reads_none [] has = has
reads_none (cell ∷ cells) (inl is) = absurd (cc is)
reads_none (cell ∷ cells) (inr has) = reads_none cells has

both_none : (xs ys : List Note) → (Has xs Sync → ⊥) → (Has ys Sync → ⊥) → Has (xs ++ ys) Sync → ⊥
both_none xs ys first second has = either (has_either xs ys Sync has)
  where
    either : Has xs Sync ⊎ Has ys Sync → ⊥
    either (inl here) = first here
    either (inr there) = second there

head_none : (count : ℕ) → Has (take count head_notes) Sync → ⊥
head_none count has = reads_none (0 ∷ []) (has_take count head_notes Sync has)

-- an opening's reads have none
reading_none : (p : Params) (epoch : ℕ) → Has (reads_of_opening p epoch) Sync → ⊥
reading_none p epoch (inl is) = absurd (cc is)
reading_none p epoch (inr has) =
    let registers = region_cells p GenerationTwin ++ region_cells p EpochTwin in
    let check = check_cells p (epoch % 2) in
    let log = region_cells p (LogArea ((epoch + 1) % 2)) in
    both_none (reads_of registers ++ reads_of check) (reads_of log) (both_none (reads_of registers) (reads_of check) (reads_none registers) (reads_none check)) (reads_none log) has

regroup : (reads sync setting repeated : List Note) → reads ++ sync ++ setting ++ repeated ≡ reads ++ (sync ++ (setting ++ repeated))
regroup reads sync setting repeated = append_assoc (reads ++ sync) setting repeated ∙ append_assoc reads sync (setting ++ repeated)

module _ (p : Params) (found : Found) where
  -- the batches that are repeated
  abbrev repeated : List Note
  repeated = repeats p (begun_public (gates_open found.gates) (public_of_found p found)) (fills_of p (content_of found.tables) found.records) 0 (length found.records)

  -- the notes that set the next generation
  abbrev setting : List Note
  setting = set_twin p GenerationTwin (suc found.generation) (gates_open found.gates (gate_cell p GenerationTwin (suc found.generation)))

  -- behind its reads comes a sync
  opening_is : opening_row p found ≡ reads_of_opening p found.epoch ++ Sync ∷ (setting ++ repeated)
  opening_is =
      ap (λ (l : List Note). head_notes ++ l)
      (regroup (reads_of (region_cells p GenerationTwin ++ region_cells p EpochTwin) ++ reads_of (check_cells p (found.epoch % 2)) ++ reads_of (region_cells p (LogArea ((found.epoch + 1) % 2)))) (Sync ∷ []) setting repeated)

  synced : (count : ℕ) → length (reads_of_opening p found.epoch) < count → Has (take count (opening_row p found)) Sync
  synced count settled = subst (λ (l : List Note). Has (take count l) Sync) (sym opening_is) (has_behind count (reads_of_opening p found.epoch) (setting ++ repeated) Sync settled)

  longer : length (begun_row p found) ≤ length (opening_row p found)
  longer = (let whole = length-append (before_repeats p (public_of_found p found) (gates_open found.gates) (suc found.generation)) repeated in omega (arith, whole))

  -- where a note lacks of those before the repeats, as many were shown as are counted
  pub counted : (count : ℕ) (notes : List Note) → notes ≡ take count (opening_row p found) → length (begun_row p found) ≡ suc count → length (begun_row p found) ≡ suc (length notes)
  counted count notes are lacks =
      (let long = longer in lacks ∙ ap (λ (n : ℕ). suc n) (sym (ap (λ (l : List Note). length l) are ∙ length-take-le count (opening_row p found) (omega (arith, long, lacks)))))

-- ---- what a refused opening showed

module _ (keys : Keys) (most : ℕ) (p : Params) (old new : Disk) (before after : Trace) (fault : Fault) where
  shows_reads : (reads : ReadsFirst keys p old new before after) → Shows (notes_of_reads keys most p old new before after fault reads) before after
  shows_reads (inl registers) = (registers.tells).shows
  shows_reads (inr finding) = ((finding.told).tells).shows

  shows_at : (found : Found) (stops : StopsAt (begun_notes p found) keys most p found old new before after fault) → Shows (notes_at keys most p old new before after fault found stops) before after
  shows_at found (inl short) = ((short.first).tells).shows
  shows_at found (inr again) =
      let told = again.told in
      shows_then (begun_notes p found) (repeat_notes p (content_of found.tables).versions (flat_of p (content_of found.tables)) (take (told.repeats).count found.records)) before told.shown after (told.begun).shows ((told.repeats).told).shows

  shows_stop : (stops : OpeningStops keys most p old new before after fault) → Shows (notes_of_stop keys most p old new before after fault stops) before after
  shows_stop (inl reads) = shows_reads reads.0
  shows_stop (inr behind) = shows_at behind.found behind.stops

-- of the head's read
head_shown : (fault : Fault) (old new : Option (List Event)) (t u : Trace) → DoesReads {V = Params} head_notes old new t u (Err fault) → (count : ℕ) × Shows (take count head_notes) t u
head_shown (fault.StoreFault unsure) old new t u does = some does
  where
    some : TellsFirst head_notes old new t u → (count : ℕ) × Shows (take count head_notes) t u
    some told = (length told.shown, subst (λ (l : List Note). Shows l t u) (front_take head_notes told.shown (cut_front head_notes told.made told.shown told.cut)) (told.tells).shows)
head_shown (fault.Damaged cell check kept computed) old new t u does = (1, does.shows)
head_shown (fault.Worn number) old new t u does = (1, does.shows)
head_shown fault.Memory old new t u does = (1, does.shows)
head_shown fault.Usage old new t u does = (1, does.shows)
head_shown (fault.BadScript line) old new t u does = (1, does.shows)
head_shown (fault.BadParams what) old new t u does = (1, does.shows)
head_shown fault.NotStore old new t u does = (1, does.shows)
head_shown (fault.StashFull rows) old new t u does = (1, does.shows)
head_shown fault.SourceFault old new t u does = (1, does.shows)
head_shown fault.SinkFault old new t u does = (1, does.shows)

-- ---- a run that was refused

module _ {S : Type 0} (disk : S → Disk) (keys : Keys) (p : Params) where
  -- what a row of runs asks of one, at parameters of which the store's head told
  pub record IsStopPart (q : Params) (r : TracedRun S) (notes : List Note) : Type 0 where
    pub stop : IsStopShown keys q (disk r.old) (disk r.new) notes
    pub stops : RingStops keys q (disk r.old) (disk r.new)

  pub opening_part : (r : TracedRun S) (stopped : StoppedInOpening disk keys p r) → IsStopPart p r (notes_when_stopped disk keys p r stopped)
  opening_part r stopped = subst (λ (q : Params). IsStopPart q r (notes_when_stopped disk keys p r stopped)) stopped.params (by_stood (subst (λ (q : Params). Stands ring_kind keys q (disk r.old).cells stopped.at) (sym stopped.params) stopped.stood))
    where
      by_stood : Stands ring_kind keys (stopped.went).p (disk r.old).cells stopped.at → IsStopPart (stopped.went).p r (notes_when_stopped disk keys p r stopped)
      by_stood stood =
          let stops = (stopped.went).stops in
          record {
            stop = refused_openings disk keys (r.by).lanes (stopped.went).p r.old stops.read r.new stops.between r.last stopped.fault (ring_standing stopped.at stood.0 (stood.1).content (stood.1).records) stopped.tells (stood.1).stands stops.keeps stops.passes stops.stops;
            stops = (stopped.went).stops_life stopped.tells;
          }

  pub opening_shown : (r : TracedRun S) → (r.by).head ≡ head_cells → (stopped : StoppedInOpening disk keys p r) → Shows (notes_when_stopped disk keys p r stopped) r.first r.last
  opening_shown r head_is stopped =
      let stops = (stopped.went).stops in
      let head = subst (λ (cells : List ℕ). Shows (notes_of_head cells) r.first stops.between) head_is stops.head in
      shows_then head_notes (notes_of_stop keys (r.by).lanes (stopped.went).p (disk stops.read) (disk r.new) stops.between r.last stopped.fault stops.stops) r.first stops.between r.last head
      (shows_stop keys (r.by).lanes (stopped.went).p (disk stops.read) (disk r.new) stops.between r.last stopped.fault stops.stops)

  -- it came to the head at most
  pub record IsHeadPart (r : TracedRun S) : Type 0 where
    pub count : ℕ
    pub passes : Passes Same (disk r.old) (disk r.new)
    pub shown : Shows (take count head_notes) r.first r.last

  pub head_part : (r : TracedRun S) → (r.by).head ≡ head_cells → CameToHead disk keys p r → IsHeadPart r
  head_part r head (inl refused) = (let some = head_shown refused.0 (disk r.old).seen (disk r.new).seen r.first r.last (refused.1).shown in record { count = some.0; passes = (refused.1).passes; shown = some.1 })
  head_part r head (inr (inl input)) = record { count = 1; passes = (input.1).passes; shown = subst (λ (cells : List ℕ). Shows (notes_of_head cells) r.first r.last) head (input.1).shown }
  head_part r head (inr (inr broken)) = record { count = 1; passes = broken.passes; shown = broken.shown }

  -- nothing was done to a life
  head_stops : (r : TracedRun S) → Passes Same (disk r.old) (disk r.new) → RingStops keys p (disk r.old) (disk r.new)
  head_stops r passes word_of s pending cells images = record {
    found = [];
    finds = inl refl;
    made = [];
    in_flight = pending;
    part = inl (refl, refl);
    is_life = tt;
    images = λ c will. (let (was, may, is) = passes.now c will in subst (λ (image : Image). IsLeftAt keys p word_of s pending image) (sym is) (images was may));
  }

  -- ---- what such a row takes of it

  module _ (old new : S) (notes : List Note) (may_leave : Image → Type 0) (parts : List (RunPart S)) (rows : List (List Note)) (from : AreRunsFrom disk keys p may_leave (Stopped old new ∷ parts)) (shown : AreAllShown disk keys p (disk new).may_leave parts rows from.2) where
    sync_shown : (begun : StopsBegun keys p (disk old) (disk new) notes) → Has notes Sync
    sync_shown begun = subst (λ (l : List Note). Has l Sync) (sym begun.notes_are) (synced p begun.found begun.count begun.settled)

    next_behind : (stop : IsStopShown keys p (disk old) (disk new) notes) → (StopsReading keys p (disk old) (disk new) notes → Has notes Sync → ⊥) → (IsSo : Image → Type 0) → (Has notes Sync → IsSo (disk old).cells)
        → ((Has notes Sync → ⊥) → IsNextBegun disk keys p IsSo (disk new).may_leave parts rows from.2 shown) → IsNextBegun disk keys p IsSo may_leave (Stopped old new ∷ parts) (notes ∷ rows) from (stop, shown)
    next_behind (inl reads) none IsSo here there = there (none reads)
    next_behind (inr begun) none IsSo here there = here (sync_shown begun)

    sure_behind : (stop : IsStopShown keys p (disk old) (disk new) notes)
        → ((found : Found) → IsFoundInRing keys p (disk old).cells found → length (begun_row p found) ≡ suc (length notes) → IsNextBegun disk keys p (λ image. StandsAt (tagging keys) 1 image found.generation) (disk new).may_leave parts rows from.2 shown)
        → IsGateSure disk keys p (disk new).may_leave parts rows from.2 shown → IsGateSure disk keys p may_leave (Stopped old new ∷ parts) (notes ∷ rows) from (stop, shown)
    sure_behind (inl reads) here later = later
    sure_behind (inr begun) here later = (λ lacks. here begun.found begun.found_in (counted p begun.found begun.count notes begun.notes_are lacks), later)

    -- it showed no sync
    next_bare : (stop : IsStopShown keys p (disk old) (disk new) notes) → (Has notes Sync → ⊥) → (IsSo : Image → Type 0) → IsNextBegun disk keys p IsSo (disk new).may_leave parts rows from.2 shown
        → IsNextBegun disk keys p IsSo may_leave (Stopped old new ∷ parts) (notes ∷ rows) from (stop, shown)
    next_bare (inl reads) none IsSo later = later
    next_bare (inr begun) none IsSo later = absurd (none (sync_shown begun))

    sure_bare : (stop : IsStopShown keys p (disk old) (disk new) notes) → (Has notes Sync → ⊥) → IsGateSure disk keys p (disk new).may_leave parts rows from.2 shown → IsGateSure disk keys p may_leave (Stopped old new ∷ parts) (notes ∷ rows) from (stop, shown)
    sure_bare (inl reads) none later = later
    sure_bare (inr begun) none later = absurd (none (sync_shown begun))

  reading_alone : (r : TracedRun S) (stopped : StoppedInOpening disk keys p r) (notes : List Note) → StopsReading keys p (disk r.old) (disk r.new) notes → Has notes Sync → ⊥
  reading_alone r stopped notes reads has =
      let epoch = (stopped.at).epoch in
      let some = reads.shown epoch (((stopped.stood).1).stands).epoch in
      reading_none p epoch (has_take some.0 (reads_of_opening p epoch) Sync (subst (λ (l : List Note). Has l Sync) some.1 has))

  -- ---- the row

  record IsRow (may_leave : Image → Type 0) (runs : List (TracedRun S)) (are : AreRunsOrRefusals disk keys p may_leave runs) : Type 1 where
    pub parts : List (RunPart S)
    pub rows : List (List Note)
    pub from : AreRunsFrom disk keys p may_leave parts
    pub shown : AreAllShown disk keys p may_leave parts rows from
    pub told : AreRowsTold runs rows
    pub given : (word_of : WordId → ℕ) → AreTapesOf word_of runs → AreGiven word_of parts
    pub next : (IsSo : Image → Type 0) → IsNextSyncedAt disk keys p IsSo may_leave runs are → IsNextBegun disk keys p IsSo may_leave parts rows from shown
    pub sure : AreGatesSure disk keys p may_leave runs are → IsGateSure disk keys p may_leave parts rows from shown

  module _ (may_leave : Image → Type 0) (r : TracedRun S) (runs : List (TracedRun S)) (later : AreRunsOrRefusals disk keys p (disk r.new).may_leave runs) (more : IsRow (disk r.new).may_leave runs later) where
    served_row : (one : IsRowRun disk keys p may_leave r) → IsRow may_leave (r ∷ runs) (inl one, later)
    served_row one =
        let x = part disk keys p may_leave r one in
        let notes = (head_notes ++ opening_shows p (x.found).content (x.found).records ((x.found).run).epoch (((x.found).run).sealer).generation ((x.found_in).found).gates ++ steps_notes ring_kind p (ring_public p x.found) x.steps) ++ x.last in
        let told : IsServedShown keys (r.by).lanes p (disk r.old).cells x.found x.calls x.steps x.behind x.refused (r.tape).words x.seen notes = record { found_in = x.found_in; steps_are = x.steps_are; more = x.last; refused_shown = (x.left).shown; notes_are = refl } in
        record {
          parts = Served (r.by).lanes r.old x.found x.opened x.calls x.steps x.behind x.refused (r.tape).words x.seen r.new ∷ more.parts;
          rows = notes ∷ more.rows;
          from = (one.begun, (x.begins, (x.left).goes, (x.map_found, x.is_map)), more.from);
          shown = (record { shown = told; noted = (x.left).noted; gated = (x.left).gated x.knows x.map_found x.is_map x.opened_gate }, more.shown);
          told = (x.shown, more.told);
          given = λ word_of tapes. (subst (λ (n : ℕ). AreTapeWords word_of n (r.tape).words) (sym x.generation) tapes.0, more.given word_of tapes.1);
          next = λ IsSo is. is;
          sure = λ are. more.sure are;
        }

    opening_row_of : (begun : BeganWithin disk keys p may_leave r) (stopped : StoppedInOpening disk keys p r) → IsRow may_leave (r ∷ runs) (inr (begun, inl stopped), later)
    opening_row_of begun stopped =
        let x = opening_part r stopped in
        let notes = notes_when_stopped disk keys p r stopped in
        let from : AreRunsFrom disk keys p may_leave (Stopped r.old r.new ∷ more.parts) = ((begun.begun, begun.within), x.stops, more.from) in
        record {
          parts = Stopped r.old r.new ∷ more.parts;
          rows = notes ∷ more.rows;
          from = from;
          shown = (x.stop, more.shown);
          told = (opening_shown r begun.head stopped, more.told);
          given = λ word_of tapes. more.given word_of tapes.1;
          next = λ IsSo is. next_behind r.old r.new notes may_leave more.parts more.rows from more.shown x.stop (reading_alone r stopped notes) IsSo is.0 (λ none. more.next IsSo (is.1 none));
          sure = λ are. sure_behind r.old r.new notes may_leave more.parts more.rows from more.shown x.stop
              (λ found in_ring lacks. more.next (λ image. StandsAt (tagging keys) 1 image found.generation) (are.0 found in_ring lacks)) (more.sure are.1);
        }

    head_row_of : (begun : BeganWithin disk keys p may_leave r) (came : CameToHead disk keys p r) → IsRow may_leave (r ∷ runs) (inr (begun, inr came), later)
    head_row_of begun came =
        let x = head_part r begun.head came in
        let notes = take x.count head_notes in
        let from : AreRunsFrom disk keys p may_leave (Stopped r.old r.new ∷ more.parts) = ((begun.begun, begun.within), head_stops r x.passes, more.from) in
        let stop = refused_heads disk keys p r.old r.new x.count x.passes in
        record {
          parts = Stopped r.old r.new ∷ more.parts;
          rows = notes ∷ more.rows;
          from = from;
          shown = (stop, more.shown);
          told = (x.shown, more.told);
          given = λ word_of tapes. more.given word_of tapes.1;
          next = λ IsSo is. next_bare r.old r.new notes may_leave more.parts more.rows from more.shown stop (head_none x.count) IsSo (more.next IsSo is);
          sure = λ are. sure_bare r.old r.new notes may_leave more.parts more.rows from more.shown stop (head_none x.count) (more.sure are);
        }

  row_of : (may_leave : Image → Type 0) (runs : List (TracedRun S)) (are : AreRunsOrRefusals disk keys p may_leave runs) → IsRow may_leave runs are
  row_of may_leave [] are = record { parts = []; rows = []; from = tt; shown = tt; told = tt; given = λ word_of tapes. tt; next = λ IsSo is. tt; sure = λ sure. tt }
  row_of may_leave (r ∷ runs) (inl one, later) = served_row may_leave r runs later (row_of (disk r.new).may_leave runs later) one
  row_of may_leave (r ∷ runs) (inr (begun, inl stopped), later) = opening_row_of may_leave r runs later (row_of (disk r.new).may_leave runs later) begun stopped
  row_of may_leave (r ∷ runs) (inr (begun, inr came), later) = head_row_of may_leave r runs later (row_of (disk r.new).may_leave runs later) begun came

pub refused_runs_fit : {S : Type 0} (disk : S → Disk) → RefusedRunsFit disk
refused_runs_fit disk keys p made_by blank made runs formatted told are sure word_of tapes =
    let row = row_of disk keys p (disk made).may_leave runs are in
    let fits = stopped_runs disk keys p made_by.words made row.parts row.rows (formatted.begins_life told) (formatted.gates told) row.from row.shown (row.sure sure) word_of (row.given word_of tapes) in
    (row.rows, row.told, fits.0, fits.1)
