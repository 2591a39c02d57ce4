-- What is shown of an end, by its answer.
use Rattle.std.specs.Prelude.{◌≡◌, ◌⊎◌, ℕ, ◌-◌, List, [], ◌∷◌, take, length, Option, Result, Ok, Err}
use Rattle.ob_base.specs.declared.fault.Fault.TheVariants as fault
use Rattle.ob_recover.specs.Telling.{ArePhasesMade, IsFrontShown, IsRowShown}
use Rattle.ob_schedule.specs.Phases.{Phase, shared}
pub use Rattle.ob_schedule.specs.Schedule.{end_lifts}
use Rattle.ob_serial.specs.declared.vault.EndErr.{EndErr}
use Rattle.ob_serial.specs.declared.vault.EndErr.TheVariants as end
use Rattle.ob_store.specs.declared.event.Event.{Event}
use Rattle.ob_store.specs.declared.watch.Note.{Note}

-- The row of an end closes with the write that opens its register's gate, and a sync, and so do its phases. What comes before that write,
abbrev pub before_gate : {X : Type 0} → List X → List X
before_gate row = take (length row - 2) row

-- and all but that sync
abbrev pub up_to_gate : {X : Type 0} → List X → List X
up_to_gate row = take (length row - 1) row

-- The gate's write was made, and shown with all before it; the sync behind it was made or not.
pub record IsGateShown (most : ℕ) (phases : List Phase) (row shown : List Note) (old new : Option (List Event)) : Type 0 where
  pub all : shown ≡ up_to_gate row
  pub seen : ArePhasesMade most (up_to_gate phases) old new ⊎ ArePhasesMade most phases old new

-- All of the row with these phases where it went well, and all up to the gate's write where it is unsure. Refused by the store before that,
-- the first of what comes before it; refused for damage or a full stash the lifts' reads, all of them; and where numbers are worn those, or
-- nothing.
abbrev pub EndShows : ℕ → (lifts : List Note) → List Phase → (row shown : List Note) → Option (List Event) → Option (List Event) → Result (Unit {0}) EndErr → Type 0
EndShows most lifts phases row shown old new (Ok done) = IsRowShown most phases row shown old new
EndShows most lifts phases row shown old new (Err (end.Unsure refused)) = IsGateShown most phases row shown old new
EndShows most lifts phases row shown old new (Err (end.Before (fault.StoreFault unsure))) = IsFrontShown most (before_gate phases) (before_gate row) shown old new
EndShows most lifts phases row shown old new (Err (end.Before (fault.Worn number))) = IsRowShown most [] [] shown old new ⊎ IsRowShown most (shared lifts ∷ []) lifts shown old new
EndShows most lifts phases row shown old new (Err (end.Before refused)) = IsRowShown most (shared lifts ∷ []) lifts shown old new
