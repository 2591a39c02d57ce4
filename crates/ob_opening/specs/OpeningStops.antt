-- Where a refused opening stopped: which notes it showed, and what it left of the registers' gates by how many of them lack.
use Rattle.std.specs.Prelude.{◌⊎◌, ◌<◌, ◌≤◌, ℕ, suc, List, length, Err}
use Rattle.ob_base.specs.declared.params.Params.{Params}
use Rattle.ob_base.specs.declared.fault.Fault.{Fault}
use Rattle.ob_store.specs.declared.watch.Note.{Note}
use Rattle.ob_store.specs.Disk.{Disk, Image}
use Rattle.ob_store.specs.Images.{Shrinks}
use Rattle.ob_store.specs.Lines.{Trace}
use Rattle.ob_seal.specs.declared.keys.Keys.{Keys}
use Rattle.ob_twin.specs.Opening.{is_closed_first}
use Rattle.ob_twin.specs.Orders.{set_notes}
use Rattle.ob_twin.specs.Register.{place_of}
use Rattle.ob_twin.specs.Stops.{StopsShort}
use Rattle.ob_start.specs.Beginning.{IsSyncedLeft}
use Rattle.ob_start.specs.Registers.{HaveOpen}
use Rattle.ob_recover.specs.declared.found.Found.{Found}
use Rattle.ob_recover.specs.Finds.{IsFoundInRing}
use Rattle.ob_opening.specs.OpeningRuns.{ReadsFirst, RepeatsBehind, begun_notes}

-- the notes that set the next generation, behind the first sync
abbrev pub next_set : Found → List Note
next_set found = set_notes (is_closed_first (found.gates).generation (place_of (suc found.generation))) 1 (suc found.generation)

-- So many notes lack up to where the next generation has begun. Where the first sync is one of them the image might have been left before. Else it
-- has the cells that were told, so also the gates of the epoch's register, but for the generations' one, which is left by how many lack.
abbrev pub IsLeftByOpening : Keys → Found → (old : Disk) → (lacking : ℕ) → Image → Type 0
IsLeftByOpening keys found old lacking image = ((length (next_set found) < lacking) × old.may_leave image) ⊎ (((1 ≤ lacking) × (lacking ≤ length (next_set found))) × (old.tells → IsSyncedLeft keys (suc found.generation) old.cells lacking image))

-- All of the row was shown, and then batches were repeated: none of its notes lacks.
pub record StopsInRepeats (row : List Note) (keys : Keys) (most : ℕ) (p : Params) (found : Found) (old new : Disk) (before after : Trace) (fault : Fault) : Type 0 where
  pub told : RepeatsBehind {T = Unit {0}} row most p found old.seen new.seen before after (Err fault)
  pub left : (image : Image) → new.may_leave image → old.tells → IsSyncedLeft keys (suc found.generation) old.cells 0 image

-- of a row up to where the next generation has begun the first notes were shown, or all
abbrev pub StopsAt : (row : List Note) → Keys → (most : ℕ) → Params → Found → (old new : Disk) → (before after : Trace) → Fault → Type 0
StopsAt row keys most p found old new before after fault = StopsShort row row (IsLeftByOpening keys found old) old new before after ⊎ StopsInRepeats row keys most p found old new before after fault

-- all was found
pub record StopsBehind (keys : Keys) (most : ℕ) (p : Params) (old new : Disk) (before after : Trace) (fault : Fault) : Type 0 where
  pub found : Found
  pub found_in : old.tells → IsFoundInRing keys p old.cells found
  pub found_open : HaveOpen found.gates
  pub stops : StopsAt (begun_notes p found) keys most p found old new before after fault

-- Some of the reads were made, and each image might have been left before; or all was found.
abbrev pub OpeningStops : Keys → (most : ℕ) → Params → (old new : Disk) → (before after : Trace) → Fault → Type 0
OpeningStops keys most p old new before after fault = (ReadsFirst keys p old new before after × Shrinks old new) ⊎ StopsBehind keys most p old new before after fault
