-- What is told of reads that lanes share, beside steps that are made one by one.
use Rattle.std.specs.Prelude.{◌≡◌, ◌↔◌, ℕ, ◌≤◌, List, [], ◌∷◌, ◌++◌, map, Option, Some}
use Rattle.ob_cells.specs.Lanes.{ReadByLanes}
use Rattle.ob_schedule.specs.Phases.{Phase, Reads, Writes, Syncs, events_of_phases, phase_events}
use Rattle.ob_store.specs.Calls.{Notes}
use Rattle.ob_store.specs.Lines.{Shows, Trace}
use Rattle.ob_store.specs.Told.{IsCut, events_of}
use Rattle.ob_store.specs.declared.event.Event.{Event}
use Rattle.ob_store.specs.declared.event.Event.TheVariants.{Read}
use Rattle.ob_store.specs.declared.watch.Note.{Note}

-- ---- phases

-- the reads of these cells, dealt to at most so many lanes: what is then told, behind no other event
abbrev pub IsDealt : ℕ → List ℕ → List Event → Type 0
IsDealt most cells events = ReadByLanes most cells (Some []) (Some events)

-- The events of phases, one behind the other: the reads of each are dealt to lanes; writes and syncs are as planned.
abbrev pub AreDealt : ℕ → List Phase → List Event → Type 0
AreDealt most [] events = events ≡ []
AreDealt most (Reads cells ∷ phases) events = (first : List Event) × (rest : List Event) × (events ≡ first ++ rest) × IsDealt most cells first × AreDealt most phases rest
AreDealt most (Writes cells ∷ phases) events = (rest : List Event) × (events ≡ phase_events (Writes cells) ++ rest) × AreDealt most phases rest
AreDealt most (Syncs ∷ phases) events = (rest : List Event) × (events ≡ phase_events Syncs ++ rest) × AreDealt most phases rest

-- These phases were made, in turn, by at most so many lanes.
pub record ArePhasesMade (most : ℕ) (phases : List Phase) (old new : Option (List Event)) : Type 0 where
  pub events : List Event
  pub dealt : AreDealt most phases events
  pub noted : Notes events old new

-- The watch is shown these notes, and these phases were made.
pub record AreTold (most : ℕ) (phases : List Phase) (notes : List Note) (old new : Option (List Event)) (before later : Trace) : Type 0 where
  pub shows : Shows notes before later
  pub seen : ArePhasesMade most phases old new

-- ---- the notes of a call, as a row of steps

-- All of the row's notes were shown, and its phases made.
pub record IsRowShown (most : ℕ) (phases : List Phase) (row shown : List Note) (old new : Option (List Event)) : Type 0 where
  pub all : shown ≡ row
  pub seen : ArePhasesMade most phases old new

-- The row was cut short between two phases: the first ones were made, whose steps are these, and each of them shown, but for a sync that
-- failed.
pub record IsFrontShown (most : ℕ) (phases : List Phase) (row shown : List Note) (old new : Option (List Event)) : Type 0 where
  pub made : List Note
  pub cut : IsCut row made shown
  pub first : List Phase
  pub rest : List Phase
  pub split : phases ≡ first ++ rest
  pub same : events_of_phases first ≡ events_of made
  pub seen : ArePhasesMade most first old new

-- ---- the laws

-- one lane makes its reads in order
abbrev pub OneLaneInOrder : Type 0
OneLaneInOrder = (most : ℕ) (cells : List ℕ) (old new : Option (List Event)) → most ≤ 1 → ReadByLanes most cells old new → Notes (map (λ cell. Read cell) cells) old new

-- and phases as planned
abbrev pub OneLaneAsPlanned : Type 0
OneLaneAsPlanned = (most : ℕ) (phases : List Phase) (old new : Option (List Event)) → most ≤ 1 → ArePhasesMade most phases old new → Notes (events_of_phases phases) old new

-- Phases are made where the first ones and then the others were, those of a row shown likewise, and a phase of reads just where lanes read
-- its cells.
pub record PhasesJoin : Type 0 where
  pub made : (most : ℕ) (first later : List Phase) (old mid new : Option (List Event)) → ArePhasesMade most first old mid → ArePhasesMade most later mid new → ArePhasesMade most (first ++ later) old new
  pub shown : (most : ℕ) (first later : List Phase) (xs shown_first ys shown_later : List Note) (old mid new : Option (List Event)) → IsRowShown most first xs shown_first old mid → IsRowShown most later ys shown_later mid new
      → IsRowShown most (first ++ later) (xs ++ ys) (shown_first ++ shown_later) old new
  pub read : (most : ℕ) (cells : List ℕ) (old new : Option (List Event)) → ReadByLanes most cells old new ↔ ArePhasesMade most (Reads cells ∷ []) old new
