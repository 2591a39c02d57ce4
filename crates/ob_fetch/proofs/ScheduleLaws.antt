-- What a fetch shows is the schedule's batch, and its planner goes on from there.
use Rattle.std.specs.Prelude.{◌≡◌, ◌⊎◌, ℕ, suc, ◌<◌, ◌≤◌, List, [], ◌∷◌, ◌++◌, map, length, Option, None, Result, Ok, Err, IfErr}
use Rattle.std.specs.Result.{IsErr}
use Rattle.std.proofs.Common.{arith, inl, inr, refl, sym, ap, ◌∙◌, subst}
use Rattle.std.proofs.lemmas.List.{append-nil}
use Rattle.ob_base.specs.declared.fault.Fault.{Fault}
use Rattle.ob_base.specs.declared.fault.Fault.TheVariants.{Memory, Usage, BadScript, BadParams, NotStore, Damaged, StoreFault, StashFull, Worn, SourceFault, SinkFault}
use Rattle.ob_base.specs.declared.params.Params.{Params}
use Rattle.ob_tables.specs.Buckets.{Buckets}
use Rattle.ob_tables.specs.Content.{Content}
use Rattle.ob_stand.specs.Table.{buckets_of, flat_of}
use Rattle.ob_log.specs.Appends.{append_notes}
use Rattle.ob_log.specs.Logs.{BatchRecord, RecordFits, RecordObeys, RecordsFit}
use Rattle.ob_recover.specs.Repeats.{BatchIsShown, IsRepeatFault, NoneIsShown, asked_of_record, batch_cells, place_notes, repeated_notes, table_after_records}
use Rattle.ob_ring.specs.FlatTable.{FlatTable, after_place, leaf_shown}
use Rattle.ob_ring.specs.Picked.{SameSeals, place_picked}
use Rattle.ob_ring.specs.Ring.{Kept, StandsFor}
use Rattle.ob_ring.proofs.PlanLaws.{job_same}
use Rattle.ob_recover.specs.Known.{PlansFrom, fills_of, public_of_kept}
use Rattle.ob_recover.specs.Telling.{IsFrontShown, IsRowShown}
use Rattle.ob_recover.proofs.Batch.{batches_are_scheduled}
use Rattle.ob_recover.proofs.Once.{table_once}
use Rattle.ob_recover.specs.Batches.{BatchIsScheduled}
use Rattle.ob_recover.proofs.CellsRead.{batch_read_cells}
use Rattle.ob_recover.proofs.Dealing.{has_appended}
use Rattle.ob_recover.proofs.Telling.{front_as, front_none, front_step, front_then, row_as, row_read, row_step, row_then}
use Rattle.ob_schedule.specs.Phases.{Phase, Reads, batch_phases, cells_read, phases_of}
use Rattle.ob_schedule.specs.Schedule.{batch_notes}
use Rattle.ob_schedule.proofs.Phased.{steps_phased}
use Rattle.ob_seal.specs.declared.keys.Keys.{Keys}
use Rattle.ob_store.specs.Disk.{Disk}
use Rattle.ob_store.specs.Lines.{Shows, Trace}
use Rattle.ob_store.specs.Told.{Tells, TellsFirst}
use Rattle.ob_store.specs.declared.event.Event.{Event}
use Rattle.ob_store.specs.declared.watch.Note.{Note}
use Rattle.ob_store.specs.declared.watch.Note.TheVariants as note
use Rattle.ob_store.proofs.Showing.{shows_then}
use Rattle.ob_twin.specs.declared.gates.Gates.{Gates}
use Rattle.ob_fetch.proofs.LogLaws.{more_at, more_many}
use Rattle.ob_fetch.proofs.NextLaws.{follows_more, moves_unlisted, seals_listed, stands_listed}
use Rattle.ob_fetch.specs.Fetches.{FetchDoes, FetchShows, IsLoggedFirst, IsOpenIfShown, MovesPlanner, next_batch, unlisted}
use Rattle.ob_fetch.specs.declared.run.Run.{Run}

-- there is room for the batch that comes next
pub batch_room : (run : Run) → 0 < run.left → run.left ≤ (run.params).batches → next_batch run < (run.params).batches
batch_room run some few = omega (arith, some, few)

-- another name for the same generation
pub plans_as : {g g' : ℕ} → g' ≡ g → (p : Params) (gates : Gates) (ring : Kept) (c : Content) (rs : List BatchRecord) → PlansFrom p g gates ring c rs → PlansFrom p g' gates ring c rs
plans_as {g} {g'} same p gates ring c rs was = subst (λ (n : ℕ). PlansFrom p n gates ring c rs) (sym same) was

module _ (p : Params) (g : ℕ) (gates : Gates) (ring : Kept) (c : Content) (rs : List BatchRecord) (r : BatchRecord) (batch : ℕ) (was : PlansFrom p g gates ring c rs) (many : length rs ≡ batch) (room : batch < p.batches) (obeys : RecordObeys p batch r) where
  fits : RecordFits p (length rs) r
  fits = subst (λ (b : ℕ). RecordFits p b r) (sym many)
      (record { batch_is = obeys.batch_is; asks_many = obeys.asks_many; words_many = obeys.words_many; keys_low = obeys.keys_low; keys_apart = obeys.keys_apart })

  pub fit_more : RecordsFit p (rs ++ r ∷ [])
  fit_more = record {
    few = omega (arith, more_many rs r, many, room);
    each = more_at rs r (λ x b. RecordFits p b x) (was.fit).each fits;
  }

  -- the planner behind it
  pub plans_more : (ring' : Kept) → r.generation ≤ g → MovesPlanner p r ring ring' → PlansFrom p g gates ring' c (rs ++ r ∷ [])
  plans_more ring' low moves = record {
    obeys = was.obeys;
    fit = fit_more;
    planner = follows_more p c rs r (unlisted ring) (unlisted ring') was.planner (moves_unlisted p r ring ring' moves);
    gate = was.gate;
  }

-- ---- what is shown

-- the notes of a batch are those of the buckets as they were sealed
place_same : (p : Params) (start now : Buckets) (t : FlatTable) (a : Option ℕ × ℕ) → SameSeals start now → place_notes p now.versions t a ≡ place_notes p start.versions t a
place_same p start now t a seals = λ i. note.Label (leaf_shown t a.0 a.1) ∷ map (λ q. note.Read (job_same p start now seals i q).cell) (place_picked p t a.0 a.1)

repeated_same : (p : Params) (start now : Buckets) (t : FlatTable) (asked : List (Option ℕ × ℕ)) → SameSeals start now → repeated_notes p now.versions t asked ≡ repeated_notes p start.versions t asked
repeated_same p start now t [] seals = refl
repeated_same p start now t (a ∷ rest) seals = λ i. place_same p start now t a seals i ++ repeated_same p start now (after_place p t a.0 a.1) rest seals i

same_seals : (b : Buckets) → SameSeals b b
same_seals b = record { homes = λ u. refl; generations = λ u. refl; bases = λ u. refl; ranks = λ u. refl; order = refl }

-- what a call showed, and how it reads whatever the planner is told to be behind
pub record IsShownOf (most : ℕ) (p : Params) (g : ℕ) (gates : Gates) (ring : Kept) (batch epoch : ℕ) (r : BatchRecord) (IsShown : ℕ → List Phase → List Note → List Note → Option (List Event) → Option (List Event) → Type 0) (old new : Option (List Event)) (before later : Trace) : Type 0 where
  pub notes : List Note
  pub shows : Shows notes before later
  pub reads_as : (c : Content) (rs : List BatchRecord) → PlansFrom p g gates ring c rs → length rs ≡ batch
      → IsShown most (batch_phases p (public_of_kept p c rs epoch gates) (fills_of p c (rs ++ r ∷ [])) (length rs)) (batch_notes p (public_of_kept p c rs epoch gates) (fills_of p c (rs ++ r ∷ [])) (length rs)) notes old new

-- where the store failed in the record's writes, the first of them are shown
pub begun_shown : (x : Result (Unit {0}) Fault) → IsErr x → IfErr x (λ f. f ≡ StoreFault None) → (most : ℕ) (logged : List Note) (phases : List Phase) (row shown : List Note) (old new : Option (List Event))
    → IsFrontShown most (phases_of logged) logged shown old new → FetchShows most logged phases row shown old new x
begun_shown (Ok value) err is most logged phases row shown old new front = absurd (grind (arith, err))
begun_shown (Err f) err is most logged phases row shown old new front = subst (λ (y : Fault). FetchShows most logged phases row shown old new (Err y)) (sym is) (inl front)

module _ (most : ℕ) (p : Params) (g : ℕ) (gates : Gates) (ring : Kept) (batch epoch : ℕ) (r : BatchRecord) (t : FlatTable) (stands : StandsFor ring t) where
  abbrev cells : List ℕ
  cells = batch_cells p (ring.metas).versions t (asked_of_record p r)

  abbrev read_notes : List Note
  read_notes = repeated_notes p (ring.metas).versions t (asked_of_record p r)

  abbrev written : List Note
  written = append_notes p (suc epoch) r.batch

  abbrev Shown : (IsShown : ℕ → List Phase → List Note → List Note → Option (List Event) → Option (List Event) → Type 0) (old new : Option (List Event)) (before later : Trace) → Type 0
  Shown IsShown old new before later = IsShownOf most p g gates ring batch epoch r IsShown old new before later

  -- refused with this fault
  abbrev Refused : Fault → ℕ → List Phase → List Note → List Note → Option (List Event) → Option (List Event) → Type 0
  Refused f m phases row shown old new = FetchShows m written phases row shown old new (Err f)

  -- nothing was
  pub shown_none : (number : ℕ) (old new : Option (List Event)) (before later : Trace) → Tells [] [] old new before later → Shown (Refused (Worn number)) old new before later
  shown_none number old new before later none = record { notes = []; shows = none.shows; reads_as = λ c rs was many. row_step most [] old new tt none.seen }

  module _ (room : batch < p.batches) (obeys : RecordObeys p batch r) where
    abbrev all_notes : Content → List BatchRecord → List Note
    all_notes c rs = batch_notes p (public_of_kept p c rs epoch gates) (fills_of p c (rs ++ r ∷ [])) (length rs)

    abbrev all_phases : Content → List BatchRecord → List Phase
    all_phases c rs = batch_phases p (public_of_kept p c rs epoch gates) (fills_of p c (rs ++ r ∷ [])) (length rs)

    abbrev table : Content → List BatchRecord → FlatTable
    table c rs = table_after_records p (flat_of p c) rs

    -- the batch's notes, whichever of the seals and of the tables they are told by
    reads_same : (c : Content) (rs : List BatchRecord) → PlansFrom p g gates ring c rs → read_notes ≡ repeated_notes p c.versions (table c rs) (asked_of_record p r)
    reads_same c rs was =
        let same : t ≡ table c rs = table_once ring t (table c rs) stands (stands_listed ring (table c rs) (was.planner).table) in
        let seals : SameSeals (record (buckets_of p c) { order = (ring.metas).order }) ring.metas = seals_listed (buckets_of p c) ring (was.planner).seals in
        ap (λ (u : FlatTable). repeated_notes p (ring.metas).versions u (asked_of_record p r)) same ∙ repeated_same p (record (buckets_of p c) { order = (ring.metas).order }) ring.metas (table c rs) (asked_of_record p r) seals

    cells_same : (c : Content) (rs : List BatchRecord) → PlansFrom p g gates ring c rs → cells ≡ batch_cells p c.versions (table c rs) (asked_of_record p r)
    cells_same c rs was =
        sym (batch_read_cells p (ring.metas).versions t (asked_of_record p r)) ∙ ap cells_read (reads_same c rs was) ∙ batch_read_cells p c.versions (table c rs) (asked_of_record p r)

    scheduled : (c : Content) (rs : List BatchRecord) → PlansFrom p g gates ring c rs → length rs ≡ batch → BatchIsScheduled p c rs r epoch gates (fills_of p c (rs ++ r ∷ []))
    scheduled c rs was many = batches_are_scheduled.own p c rs r epoch gates was.obeys (fit_more p g gates ring c rs r batch was many room obeys)

    -- the record's notes and then the batch's are the schedule's, and so are their phases
    as_scheduled : (c : Content) (rs : List BatchRecord) → PlansFrom p g gates ring c rs → length rs ≡ batch → written ++ read_notes ≡ all_notes c rs
    as_scheduled c rs was many = ap (λ (ns : List Note). written ++ ns) (reads_same c rs was) ∙ (scheduled c rs was many).notes

    in_phases : (c : Content) (rs : List BatchRecord) → PlansFrom p g gates ring c rs → length rs ≡ batch → phases_of written ++ Reads cells ∷ [] ≡ all_phases c rs
    in_phases c rs was many = ap (λ (cs : List ℕ). phases_of written ++ Reads cs ∷ []) (cells_same c rs was) ∙ (scheduled c rs was many).phases

    module _ (old new : Option (List Event)) (before later : Trace) where
      -- the record's writes were cut short
      pub shown_begun : (first : TellsFirst written old new before later) → IsFrontShown most (phases_of written) written first.shown old new
      shown_begun first = front_step most written old new before later (has_appended most p (suc epoch) r.batch) first

    module _ (old mid new : Option (List Event)) (before between later : Trace) (made : Tells written written old mid before between) where
      row_written : IsRowShown most (phases_of written) written written old mid
      row_written = row_step most written old mid (has_appended most p (suc epoch) r.batch) made.seen

      -- the slots were read
      shown_row : BatchIsShown most cells read_notes mid new between later → (c : Content) (rs : List BatchRecord) → PlansFrom p g gates ring c rs → length rs ≡ batch → IsRowShown most (all_phases c rs) (all_notes c rs) (written ++ read_notes) old new
      shown_row read c rs was many =
          row_as most (phases_of written ++ Reads cells ∷ []) (all_phases c rs) (written ++ read_notes) (all_notes c rs) (written ++ read_notes) old new (in_phases c rs was many) (as_scheduled c rs was many)
          (row_then most (phases_of written) (Reads cells ∷ []) written written read_notes read_notes old mid new row_written (row_read most cells read_notes mid new read.0))

      shown_all : BatchIsShown most cells read_notes mid new between later → Shown IsRowShown old new before later
      shown_all read = record { notes = written ++ read_notes; shows = shows_then written read_notes before between later made.shows read.1; reads_as = shown_row read }

      -- or none was
      log_front : NoneIsShown mid new between later → IsFrontShown most (phases_of written) written (written ++ []) old new
      log_front none = front_as most (phases_of written ++ []) (phases_of written) (written ++ []) written (written ++ []) old new (append-nil (phases_of written)) (append-nil written)
          (front_then most (phases_of written) [] written written [] [] old mid new (steps_phased written) row_written (front_none most [] [] mid new none.0))

      shown_log : (unsure : Option ℕ) → NoneIsShown mid new between later → Shown (Refused (StoreFault unsure)) old new before later
      shown_log unsure none = record {
        notes = written ++ [];
        shows = shows_then written [] before between later made.shows none.1;
        reads_as = λ c rs was many. inl (log_front none);
      }

      shown_store : (unsure : Option ℕ) → BatchIsShown most cells read_notes mid new between later → Shown (Refused (StoreFault unsure)) old new before later
      shown_store unsure read = record {
        notes = written ++ read_notes;
        shows = shows_then written read_notes before between later made.shows read.1;
        reads_as = λ c rs was many. inr (shown_row read c rs was many);
      }

    module _ {S : Type 0} (disk : S → Disk) (keys : Keys) (old new : S) (before later : Trace) where
      -- as a fetch does it, of any buckets and any table
      abbrev DoesSo : Result (Unit {0}) Fault → Type 0
      DoesSo result = (start : Buckets) (u : FlatTable) → SameSeals start ring.metas → StandsFor ring u
          → FetchDoes disk most keys p (suc epoch) r (batch_cells p start.versions u (asked_of_record p r)) (repeated_notes p start.versions u (asked_of_record p r)) old new before later result

      -- it went well
      pub shown_well : DoesSo (Ok tt) → Shown IsRowShown (disk old).seen (disk new).seen before later
      shown_well does = (let d = does ring.metas t (same_seals ring.metas) stands in shown_all (disk old).seen (disk d.between).seen (disk new).seen before d.shown later d.appended d.read)

      abbrev Logged : Fault → Type 0
      Logged f = IsLoggedFirst disk most keys p (suc epoch) r cells read_notes old new before later (Err f)

      whole : (f : Fault) (d : Logged f) → BatchIsShown most cells read_notes (disk d.between).seen (disk new).seen d.shown later → Shown IsRowShown (disk old).seen (disk new).seen before later
      whole f d read = shown_all (disk old).seen (disk d.between).seen (disk new).seen before d.shown later d.appended read

      maybe : (unsure : Option ℕ) (d : Logged (StoreFault unsure)) → BatchIsShown most cells read_notes (disk d.between).seen (disk new).seen d.shown later ⊎ NoneIsShown (disk d.between).seen (disk new).seen d.shown later
          → Shown (Refused (StoreFault unsure)) (disk old).seen (disk new).seen before later
      maybe unsure d (inl read) = shown_store (disk old).seen (disk d.between).seen (disk new).seen before d.shown later d.appended unsure read
      maybe unsure d (inr none) = shown_log (disk old).seen (disk d.between).seen (disk new).seen before d.shown later d.appended unsure none

      by_fault : (f : Fault) → IsRepeatFault f → Logged f → Shown (Refused f) (disk old).seen (disk new).seen before later
      by_fault Memory fault d = absurd fault
      by_fault Usage fault d = absurd fault
      by_fault (BadScript line) fault d = absurd fault
      by_fault (BadParams field) fault d = absurd fault
      by_fault NotStore fault d = absurd fault
      by_fault (Damaged cell check kept computed) fault d = whole (Damaged cell check kept computed) d d.read
      by_fault (StoreFault unsure) fault d = maybe unsure d d.read
      by_fault (StashFull rows) fault d = absurd fault
      by_fault (Worn number) fault d = absurd fault
      by_fault SourceFault fault d = absurd fault
      by_fault SinkFault fault d = absurd fault

      -- as a fetch does it whose record was opened, of any buckets and any table
      abbrev LoggedSo : Fault → Type 0
      LoggedSo f = (start : Buckets) (u : FlatTable) → SameSeals start ring.metas → StandsFor ring u
          → IsLoggedFirst disk most keys p (suc epoch) r (batch_cells p start.versions u (asked_of_record p r)) (repeated_notes p start.versions u (asked_of_record p r)) old new before later (Err f)

      -- all of the record's notes come first
      behind_record : (unsure : Option ℕ) (d : Logged (StoreFault unsure)) (x : BatchIsShown most cells read_notes (disk d.between).seen (disk new).seen d.shown later ⊎ NoneIsShown (disk d.between).seen (disk new).seen d.shown later)
          → (more : List Note) × ((maybe unsure d x).notes ≡ written ++ more)
      unfolding maybe shown_store shown_log
      behind_record unsure d (inl read) = (read_notes, refl)
      behind_record unsure d (inr none) = ([], refl)

      -- what was shown behind the record's writes, was shown behind its opening
      open_by : (f : Fault) (fault : IsRepeatFault f) (d : Logged f) → IsOpenIfShown disk keys p (suc epoch) r (by_fault f fault d).notes old new (Err f)
      unfolding by_fault
      open_by Memory fault d = tt
      open_by Usage fault d = tt
      open_by (BadScript line) fault d = tt
      open_by (BadParams field) fault d = tt
      open_by NotStore fault d = tt
      open_by (Damaged cell check kept computed) fault d = tt
      open_by (StoreFault unsure) fault d = inr (record { between = d.between; logged = d.logged; behind = d.behind }, behind_record unsure d d.read)
      open_by (StashFull rows) fault d = tt
      open_by (Worn number) fault d = absurd fault
      open_by SourceFault fault d = tt
      open_by SinkFault fault d = tt

      pub cut_scheduled : (f : Fault) → IsRepeatFault f → LoggedSo f → (x : Shown (Refused f) (disk old).seen (disk new).seen before later) × IsOpenIfShown disk keys p (suc epoch) r x.notes old new (Err f)
      cut_scheduled f fault does = (let d = does ring.metas t (same_seals ring.metas) stands in (by_fault f fault d, open_by f fault d))
