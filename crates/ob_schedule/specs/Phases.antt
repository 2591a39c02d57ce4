-- The schedule's steps as a store sees them: reads that several lanes may share, in phases, and all else one by one.
use Rattle.std.specs.Prelude.{◌≡◌, ℕ, ◌+◌, ◌%◌, Bool, List, [], ◌∷◌, ◌++◌, map}
use Rattle.std.proofs.Common.{zero, suc}
use Rattle.std.specs.List.{flat_map}
use Rattle.ob_base.specs.declared.params.Params.{Params}
use Rattle.ob_store.specs.Told.{events_of}
use Rattle.ob_store.specs.declared.event.Event.{Event}
use Rattle.ob_store.specs.declared.event.Event.TheVariants as event
use Rattle.ob_store.specs.declared.watch.Note.{Note}
use Rattle.ob_store.specs.declared.watch.Note.TheVariants.{Label, Read, Write, Sync}
use Rattle.ob_schedule.specs.Schedule.{Fills, Public, after_phase, batch_leaves, batch_notes, before_repeats, begun_public, end_lifts, end_notes, open_notes, phase_notes, record_notes, written_by_end}

-- Cells that are read, in this order where one lane reads them; cells that are written; a sync.
pub data Phase : Type 0 where
  Reads : (cells : List ℕ) → Phase
  Writes : (cells : List ℕ) → Phase
  Syncs : Phase

abbrev pub phase_events : Phase → List Event
phase_events (Reads cells) = map (λ cell. event.Read cell) cells
phase_events (Writes cells) = map (λ cell. event.Write cell) cells
phase_events Syncs = event.Sync ∷ []

-- the events of phases, one behind the other
abbrev pub events_of_phases : List Phase → List Event
events_of_phases phases = flat_map phase_events phases

-- Each read, each write and each sync a phase by itself; a label is no call.
abbrev pub phases_of : List Note → List Phase
phases_of [] = []
phases_of (Label leaf ∷ notes) = phases_of notes
phases_of (Read cell ∷ notes) = Reads (cell ∷ []) ∷ phases_of notes
phases_of (Write cell ∷ notes) = Writes (cell ∷ []) ∷ phases_of notes
phases_of (Sync ∷ notes) = Syncs ∷ phases_of notes

-- the cells that notes read
abbrev pub cells_read : List Note → List ℕ
cells_read [] = []
cells_read (Label leaf ∷ notes) = cells_read notes
cells_read (Read cell ∷ notes) = cell ∷ cells_read notes
cells_read (Write cell ∷ notes) = cells_read notes
cells_read (Sync ∷ notes) = cells_read notes

-- all that they read, as one phase
abbrev pub shared : List Note → Phase
shared notes = Reads (cells_read notes)

-- ---- a batch, an opening, an end

-- the record's steps, and the batch's reads as one phase
abbrev pub batch_phases : Params → Public → Fills → ℕ → List Phase
batch_phases p q f b = phases_of (record_notes p ((q.epoch + 1) % 2) b) ++ shared (phase_notes p q f (batch_leaves p f b)) ∷ []

-- each batch that is repeated is a phase, though two of them stand side by side
abbrev pub repeat_phases : Params → Public → Fills → ℕ → ℕ → List Phase
repeat_phases p q f b zero = []
repeat_phases p q f b (suc n) = shared (phase_notes p q f (batch_leaves p f b)) ∷ repeat_phases p (after_phase p q (batch_leaves p f b)) f (b + 1) n

-- what an opening reads before it repeats is read one by one
abbrev pub open_phases : Params → Public → Fills → (ℕ → Bool) → ℕ → ℕ → List Phase
open_phases p q f found generation batches = phases_of (before_repeats p q found generation) ++ repeat_phases p (begun_public found q) f 0 batches

-- the lifts are one phase
abbrev pub end_phases : Params → Public → Fills → List Phase
end_phases p q f = shared (end_lifts p q f) ∷ phases_of (written_by_end p q)

-- ---- the law

-- The events of phases are those of the notes.
pub record PhasesAreNotes : Type 0 where
  pub steps : (notes : List Note) → events_of_phases (phases_of notes) ≡ events_of notes
  pub batches : (p : Params) (q : Public) (f : Fills) (b : ℕ) → events_of_phases (batch_phases p q f b) ≡ events_of (batch_notes p q f b)
  pub opens : (p : Params) (q : Public) (f : Fills) (found : ℕ → Bool) (generation batches : ℕ) → events_of_phases (open_phases p q f found generation batches) ≡ events_of (open_notes p q f found generation batches)
  pub ends : (p : Params) (q : Public) (f : Fills) → events_of_phases (end_phases p q f) ≡ events_of (end_notes p q f)
