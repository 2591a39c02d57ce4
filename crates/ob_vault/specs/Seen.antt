-- What is seen of a ring store's calls: the phases of the public schedule.
use Rattle.std.specs.Prelude.{ℕ, suc, ◌⊎◌, ◌≤◌, List, [], ◌∷◌, length, take}
use Rattle.ob_base.specs.declared.params.Params.{Params}
use Rattle.ob_base.specs.declared.fault.Fault.{Fault}
use Rattle.ob_base.specs.declared.fault.Fault.TheVariants as fault
use Rattle.ob_tables.specs.Content.{Content, content_of}
use Rattle.ob_vault.specs.Shapes.{Shape, Fetches, Ends}
use Rattle.ob_log.specs.Logs.{BatchRecord}
use Rattle.ob_recover.specs.Finds.{IsFoundInRing, finding_notes}
use Rattle.ob_recover.specs.declared.found.Found.{Found}
use Rattle.ob_recover.specs.Known.{fills_of, gates_open, public_of_kept}
use Rattle.ob_recover.specs.ShownOpenings.{began_notes, opened_phases}
use Rattle.ob_recover.specs.Telling.{ArePhasesMade}
use Rattle.ob_schedule.specs.Phases.{Phase, Reads, batch_phases, end_phases, open_phases}
use Rattle.ob_schedule.specs.Schedule.{Fills, Public, after_end, after_phase, batch_leaves, batch_notes, end_notes, open_notes}
use Rattle.ob_seal.specs.declared.keys.Keys.{Keys}
use Rattle.ob_start.specs.Orders.{registers_notes}
use Rattle.ob_start.specs.Registers as start
use Rattle.ob_store.specs.Calls.{Keeps, Notes, NotesFirst}
use Rattle.ob_store.specs.Disk.{Disk}
use Rattle.ob_store.specs.Lines.{Shows, Trace}
use Rattle.ob_store.specs.Told.{events_of}
use Rattle.ob_store.specs.declared.event.Event.TheVariants as event
use Rattle.ob_store.specs.declared.watch.Note.{Note}
use Rattle.ob_store.specs.declared.watch.Note.TheVariants as note
use Rattle.ob_opening.specs.OpeningRuns.{RefusedDoes}
use Rattle.ob_twin.specs.declared.gates.Gates.{Gates}

-- ---- an opening

-- the schedule's opening of what stands: with the gates that were found, and a repeat for each record
abbrev pub opening_phases : Params → Content → List BatchRecord → (epoch generation : ℕ) → Gates → List Phase
opening_phases p c rs epoch generation gates = open_phases p (public_of_kept p c [] epoch gates) (fills_of p c rs) (gates_open gates) generation (length rs)

-- and its notes
abbrev pub opening_shows : Params → Content → List BatchRecord → (epoch generation : ℕ) → Gates → List Note
opening_shows p c rs epoch generation gates = open_notes p (public_of_kept p c [] epoch gates) (fills_of p c rs) (gates_open gates) generation (length rs)

-- Of what was found: the first events of what comes before the repeats; or all of that was made, and the repeats of the first records, by at
-- most so many lanes.
pub record OpensInPart (keys : Keys) (most : ℕ) (p : Params) (old new : Disk) : Type 0 where
  pub found : Found
  pub found_in : old.tells → IsFoundInRing keys p old.cells found
  pub seen : NotesFirst (event.Read 0 ∷ events_of (began_notes p found.epoch found.gates found.generation)) old.seen new.seen
      ⊎ ((count : ℕ) × (count ≤ length found.records)
      × ArePhasesMade most (Reads (0 ∷ []) ∷ opened_phases p (content_of found.tables) (take count found.records) found.epoch found.gates found.generation) old.seen new.seen)

-- some of the first reads of all that is found, with the checkpoint and the log of the epoch that the registers have, where the store tells its
-- cells
pub record FindsFirst (keys : Keys) (p : Params) (old new : Disk) : Type 0 where
  pub generation : ℕ
  pub epoch : ℕ
  pub registers : old.tells → start.Found keys old.cells generation epoch
  pub seen : NotesFirst (event.Read 0 ∷ events_of (finding_notes p epoch)) old.seen new.seen

-- some of these, or of the registers' reads alone
abbrev pub ReadsFirst : Keys → Params → Disk → Disk → Type 0
ReadsFirst keys p old new = NotesFirst (event.Read 0 ∷ events_of registers_notes) old.seen new.seen ⊎ FindsFirst keys p old new

-- An opening that was refused showed some of the first reads; where its store failed or something was damaged it may have gone on.
abbrev pub RingOpensPartly : Keys → (most : ℕ) → Params → Disk → Disk → Fault → Type 0
RingOpensPartly keys most p old new (fault.StoreFault unsure) = ReadsFirst keys p old new ⊎ OpensInPart keys most p old new
RingOpensPartly keys most p old new (fault.Damaged cell check kept computed) = ReadsFirst keys p old new ⊎ OpensInPart keys most p old new
RingOpensPartly keys most p old new refused = ReadsFirst keys p old new

-- What the watch was shown of it: the head's read, and from there on what an opening that was refused so does.
pub record RingOpensShown {S : Type 0} (disk : S → Disk) (keys : Keys) (most : ℕ) (p : Params) (old new : Disk) (before after : Trace) (refused : Fault) : Type 0 where
  pub mid : S
  pub later : Trace
  pub read : Notes (event.Read 0 ∷ []) old.seen (disk mid).seen
  pub keeps : Keeps old (disk mid)
  pub head : Shows (note.Read 0 ∷ []) before later
  pub does : RefusedDoes keys most p (disk mid) new later after refused

-- refused so, it may have begun the next generation
abbrev pub RingMayBegin : Fault → Type 0
RingMayBegin (fault.StoreFault unsure) = Unit {0}
RingMayBegin (fault.Damaged cell check kept computed) = Unit {0}
RingMayBegin _ = ⊥

-- ---- a call

-- What the trace depends on: what the store may know of the running epoch, and how many of its batches were shown.
pub record RingPublic : Type 0 where
  pub known : Public
  pub shown : ℕ

-- a batch, or the end of an epoch, with its holes filled so
abbrev pub ring_notes : Params → RingPublic → Shape → Fills → List Note
ring_notes p q Fetches f = batch_notes p q.known f q.shown
ring_notes p q Ends f = end_notes p q.known f

-- its phases, in which lanes share the batch's reads, and the lifts
abbrev pub ring_phases : Params → RingPublic → Shape → Fills → List Phase
ring_phases p q Fetches f = batch_phases p q.known f q.shown
ring_phases p q Ends f = end_phases p q.known f

abbrev pub ring_next : Params → RingPublic → Shape → Fills → RingPublic
ring_next p q Fetches f = record { known = after_phase p q.known (batch_leaves p f q.shown); shown = suc q.shown }
ring_next p q Ends f = record { known = after_end p q.known; shown = 0 }
