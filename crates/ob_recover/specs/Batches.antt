-- A read batch's calls show the schedule's batch, and leave its public state.
use Rattle.std.specs.Prelude.{◌≡◌, ℕ, suc, List, [], ◌∷◌, ◌++◌, length, Option}
use Rattle.ob_base.specs.declared.params.Params.{Params}
use Rattle.ob_tables.specs.Content.{Content, Obeys}
use Rattle.ob_stand.specs.Table.{flat_of}
use Rattle.ob_log.specs.Appends.{append_notes}
use Rattle.ob_log.specs.Logs.{BatchRecord, RecordsFit}
use Rattle.ob_recover.specs.Repeats.{BatchIsShown, asked_of_record, batch_cells, repeated_notes, table_after_records}
use Rattle.ob_schedule.specs.Phases.{Phase, Reads, batch_phases, phases_of}
use Rattle.ob_schedule.specs.Schedule.{Fills, after_phase, batch_leaves, batch_notes}
use Rattle.ob_store.specs.Lines.{Trace}
use Rattle.ob_store.specs.Told.{Tells}
use Rattle.ob_store.specs.declared.event.Event.{Event}
use Rattle.ob_store.specs.declared.watch.Note.{Note}
use Rattle.ob_twin.specs.declared.gates.Gates.{Gates}
use Rattle.ob_recover.specs.Fronts.{AreFirstNotes}
use Rattle.ob_recover.specs.Known.{AreFillsOf, fills_of, public_of_kept}
use Rattle.ob_recover.specs.Telling.{AreTold}

-- what the batch of a record shows, behind those of these records
abbrev pub read_notes_of : Params → Content → List BatchRecord → BatchRecord → List Note
read_notes_of p c rs r = repeated_notes p c.versions (table_after_records p (flat_of p c) rs) (asked_of_record p r)

-- its record is written in the log of the epoch that runs, and then its slots are read
abbrev pub logged_notes : Params → Content → List BatchRecord → BatchRecord → ℕ → List Note
logged_notes p c rs r epoch = append_notes p (suc epoch) r.batch ++ read_notes_of p c rs r

-- the record's steps one by one, and the batch's reads as one phase
abbrev pub logged_phases : Params → Content → List BatchRecord → BatchRecord → ℕ → List Phase
logged_phases p c rs r epoch = phases_of (append_notes p (suc epoch) r.batch) ++ Reads (batch_cells p c.versions (table_after_records p (flat_of p c) rs) (asked_of_record p r)) ∷ []

-- With these fills the batch is the schedule's, of which one that was refused has shown a front; behind it its public state is that
-- with the record.
pub record BatchIsScheduled (p : Params) (c : Content) (rs : List BatchRecord) (r : BatchRecord) (epoch : ℕ) (gates : Gates) (f : Fills) : Type 0 where
  pub notes : logged_notes p c rs r epoch ≡ batch_notes p (public_of_kept p c rs epoch gates) f (length rs)
  pub phases : logged_phases p c rs r epoch ≡ batch_phases p (public_of_kept p c rs epoch gates) f (length rs)
  pub begins : AreFirstNotes (append_notes p (suc epoch) r.batch) (batch_notes p (public_of_kept p c rs epoch gates) f (length rs))
  pub behind : after_phase p (public_of_kept p c rs epoch gates) (batch_leaves p f (length rs)) ≡ public_of_kept p c (rs ++ r ∷ []) epoch gates

-- The fills are the labels and the slots of the flat table's picks under the records' own words, the batch's own among them, or others
-- that fill the same holes so.
pub record BatchesAreScheduled : Type 0 where
  pub own : (p : Params) (c : Content) (rs : List BatchRecord) (r : BatchRecord) (epoch : ℕ) (gates : Gates)
      → Obeys p c → RecordsFit p (rs ++ r ∷ []) → BatchIsScheduled p c rs r epoch gates (fills_of p c (rs ++ r ∷ []))
  pub others : (p : Params) (c : Content) (rs : List BatchRecord) (r : BatchRecord) (epoch : ℕ) (gates : Gates) (f : Fills)
      → Obeys p c → RecordsFit p (rs ++ r ∷ []) → AreFillsOf p c (rs ++ r ∷ []) f → BatchIsScheduled p c rs r epoch gates f

-- ---- as it is told

-- The record's writes were made and shown, and then the batch was, by so many lanes.
abbrev pub BatchesAreTold : Type 0
BatchesAreTold = (most : ℕ) (p : Params) (c : Content) (rs : List BatchRecord) (r : BatchRecord) (epoch : ℕ) (gates : Gates) (old mid new : Option (List Event)) (before between later : Trace)
    → Obeys p c → RecordsFit p (rs ++ r ∷ []) → Tells (append_notes p (suc epoch) r.batch) (append_notes p (suc epoch) r.batch) old mid before between
    → BatchIsShown most (batch_cells p c.versions (table_after_records p (flat_of p c) rs) (asked_of_record p r)) (read_notes_of p c rs r) mid new between later
    → AreTold most (batch_phases p (public_of_kept p c rs epoch gates) (fills_of p c (rs ++ r ∷ [])) (length rs)) (batch_notes p (public_of_kept p c rs epoch gates) (fills_of p c (rs ++ r ∷ [])) (length rs)) old new before later
