-- What every call over a store keeps, and what each single call does.
use Rattle.std.specs.Prelude.{◌≡◌, ◌<◌, ◌≤◌, ◌↔◌, ℕ, ◌+◌, ◌-◌, ◌^◌, min, List, [], ◌++◌, length, take, slice_index_or, Option, Some, None, Result, Err, IfErr, OnOk}
use Rattle.ob_base.specs.declared.fault.Failed.{Failed}
use Rattle.ob_base.specs.declared.fault.Fault.{Fault}
use Rattle.ob_base.specs.declared.fault.Fault.TheVariants.{StoreFault}
use Rattle.ob_base.specs.Causes.{Rose}
use Rattle.ob_store.specs.declared.event.Event.{Event}
use Rattle.ob_store.specs.Disk.{Disk, Image, Clock, NotAfter}

-- Events are told after a call exactly where they were before it; they may be lost only where the count of faults rose.
abbrev pub TellsOn : Option (List Event) → Option (List Event) → ℕ → ℕ → Type 0
TellsOn (Some old) None before now = Rose before now
TellsOn (Some old) (Some new) before now = Unit {0}
TellsOn None None before now = Unit {0}
TellsOn None (Some new) before now = ⊥

-- these events come behind the earlier ones, where they are still told
abbrev pub Notes : List Event → Option (List Event) → Option (List Event) → Type 0
Notes events old None = Unit {0}
Notes events (Some old) (Some new) = new ≡ old ++ events
Notes events None (Some new) = ⊥

-- some of these events, the first ones, come behind the earlier ones
abbrev pub NotesFirst : List Event → Option (List Event) → Option (List Event) → Type 0
NotesFirst events old new = (n : ℕ) × (n ≤ length events) × Notes (take n events) old new

-- the events of a lane come behind the earlier ones, where they are still told
abbrev pub NotesLane : Option (List Event) → Option (List Event) → Option (List Event) → Type 0
NotesLane (Some events) old new = Notes events old new
NotesLane None old new = new ≡ None

-- no events, or none that are told
abbrev pub TellsNone : Option (List Event) → Type 0
TellsNone (Some events) = events ≡ []
TellsNone None = Unit {0}

-- a new lane has told no event, and tells that where its store tells its events
abbrev pub IsFreshLane : Option (List Event) → Option (List Event) → Type 0
IsFreshLane (Some store) lane = lane ≡ Some []
IsFreshLane None lane = TellsNone lane

-- the faults of a lane are added, up to the last value of a `u64`
abbrev pub AddsFaults : ℕ → ℕ → ℕ → Type 0
AddsFaults lane old new = min (old + lane) (2 ^ 64 - 1) ≤ new

-- What holds from before any call over a store to after it, whatever it answers.
pub record GoesOn (old new : Disk) : Type 0 where
  -- it holds the same references
  pub anchors : new.anchors ≡ old.anchors
  -- the count of faults doesn't fall
  pub faults : old.faults ≤ new.faults
  -- time doesn't go back
  pub later : NotAfter old.moment new.moment
  -- what a crash might have left stays so
  pub kept : (t : Clock) (c : Image) → NotAfter t old.moment → old.left_since t c → new.left_since t c
  -- cells, images and events are told only where they were told before
  pub told : new.tells → old.tells
  pub leaves : old.leaves ↔ new.leaves
  pub seen : TellsOn old.seen new.seen old.faults new.faults

-- What every call over a store has to say of it besides its own work. `blames` are the refusals that only the store causes.
pub record Serves {T E : Type 0} (blames : E → Type 0) (old new : Disk) (result : Result T E) : Type 0 where
  pub goes : GoesOn old new
  -- no lane stays out
  pub out : new.out ≤ old.out
  -- cells are told again, unless it was refused
  pub tells : OnOk result (old.tells → new.tells)
  -- it is so refused only where the store's count of faults rose
  pub cause : IfErr result (λ e. blames e → Rose old.faults new.faults)

-- a refusal of the store itself
abbrev pub IsFailed : Failed → Type 0
IsFailed failed = Unit {0}

abbrev pub IsStoreFault : Fault → Type 0
IsStoreFault (StoreFault unsure) = Unit {0}
IsStoreFault _ = ⊥

-- all the events of a call that only reads come behind the earlier ones, unless the store failed: then the first of them
abbrev pub NotesReads : {V : Type 0} → List Event → Option (List Event) → Option (List Event) → Result V Fault → Type 0
NotesReads events old new (Err (StoreFault unsure)) = NotesFirst events old new
NotesReads events old new _ = Notes events old new

-- each cell is as before
pub record Keeps (old new : Disk) : Type 0 where
  pub tells : old.tells → new.tells
  pub cells : old.tells → (k : ℕ) → new.cells k ≡ old.cells k

-- the cells of a range have these bytes
abbrev pub Holds : ℕ → List (List ℕ) → Image → Type 0
Holds base rows image = (i : ℕ) → i < length rows → image (base + i) ≡ slice_index_or rows i []
