-- The disk model, over the list of writes and syncs.
use Rattle.std.specs.Prelude.{◌≡◌, ◌⊎◌, ◌≤◌, ◌<◌, ℕ, if◌then◌else◌, List, [], ◌∷◌, ◌++◌, length, take, slice_set, ◌==◌, Option, Some, None, All, Contains, fold}
use Rattle.ob_store.specs.declared.event.Event.{Event}
pub use Rattle.ob_bare.specs.Cells.{zeros, cell_of}
use Rattle.ob_store.specs.Disk.{Clock, Disk, Image}
use Rattle.ob_mem.specs.declared.call.Call.{Call}
use Rattle.ob_mem.specs.declared.call.Call.TheVariants.{Wrote, Synced}

-- what each cell got last, and which cells were written since the last sync that succeeded
pub record Moment : Type 0 where
  pub cells : List (List ℕ)
  pub unsure : List ℕ

-- A write counts whatever it answers. A sync that fails makes nothing sure.
abbrev pub after_call : Call → Moment → Moment
after_call (Wrote cell bytes) s = record { cells = slice_set s.cells cell bytes; unsure = s.unsure ++ cell ∷ [] }
after_call (Synced done) s = record { cells = s.cells; unsure = if done then [] else s.unsure }

-- the calls in their order, the first one first
abbrev pub replay : List Call → Moment → Moment
replay [] s = s
replay (call ∷ calls) s = replay calls (after_call call s)

-- these cells, all of them sure
abbrev pub sure : List (List ℕ) → Moment
sure cells = record { cells = cells; unsure = [] }

-- a cell of the store that was written since the last sync that succeeded
abbrev pub IsUnsure : Moment → ℕ → Type 0
IsUnsure s k = Contains s.unsure k × (k < length s.cells)

-- 128 bytes
abbrev pub IsCell : List ℕ → Type 0
IsCell bytes = (length bytes ≡ 128) × All (λ b. b < 256) bytes

-- a crash leaves any 128 bytes in each cell that isn't sure, and in each other what it got last
abbrev pub MayLeave : Moment → Image → Type 0
MayLeave s c = (k : ℕ) → (IsUnsure s k × IsCell (c k)) ⊎ (c k ≡ cell_of s.cells k)

-- what a store in memory has behind it: its cells at its making, and its writes and syncs since, the first one first
pub record Past : Type 0 where
  pub first : List (List ℕ)
  pub calls : List Call

-- after the first j calls
abbrev pub moment_at : Past → ℕ → Moment
moment_at past j = replay (take j past.calls) (sure past.first)

-- after all calls
abbrev pub now_of : Past → Moment
now_of past = replay past.calls (sure past.first)

-- one call more
abbrev pub with_call : Past → Call → Past
with_call past call = record { first = past.first; calls = past.calls ++ call ∷ [] }

-- a crash at some moment since t might have left it
abbrev pub LeftSince : Past → Clock → Image → Type 0
LeftSince past t c = (j : ℕ) × (t 0 ≤ j) × (j ≤ length past.calls) × MayLeave (moment_at past j) c

-- the bytes that are given for a cell, the last ones where there are several
abbrev pub given : List (ℕ × List ℕ) → ℕ → Option (List ℕ)
given fillings k = fold (λ found f. if f.0 == k then Some f.1 else found) None fillings

-- A crash at this moment left these fillings in the cells that weren't sure, and in each other cell what it got last.
pub record IsLeft (s : Moment) (fillings : List (ℕ × List ℕ)) (image : Image) : Type 0 where
  pub filled : (k : ℕ) (bytes : List ℕ) → IsUnsure s k → given fillings k ≡ Some bytes → image k ≡ bytes
  pub unfilled : (k : ℕ) → given fillings k ≡ None → image k ≡ cell_of s.cells k
  pub sure : (k : ℕ) → (IsUnsure s k → ⊥) → image k ≡ cell_of s.cells k

-- all that a store in memory tells
abbrev pub disk_of : Past → Option (List Event) → ℕ → ℕ → Disk
disk_of past seen out faults = record {
  tells = Unit {0};
  cells = cell_of (now_of past).cells;
  leaves = Unit {0};
  may_leave = MayLeave (now_of past);
  moment = λ part. length past.calls;
  left_since = LeftSince past;
  seen = seen;
  out = out;
  faults = faults;
  anchors = [];
}
