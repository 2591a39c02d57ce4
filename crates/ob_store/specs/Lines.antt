-- The lines of a trace, and what a note adds to it.
use Rattle.std.specs.Prelude.{◌≡◌, ◌≤◌, ℕ, List, [], ◌∷◌, ◌++◌, length, take, Bool, true, false, Option, Some, None, decimal}
use Rattle.std.specs.Borrow.{GName}
use Rattle.ob_base.specs.Causes.{Rose}
use Rattle.ob_base.specs.declared.params.Params.{Params}
use Rattle.ob_store.specs.declared.watch.Note.{Note}
use Rattle.ob_store.specs.declared.watch.Note.TheVariants.{Label, Read, Write, Sync}
use Rattle.ob_store.specs.declared.line.Start.{Start}
use Rattle.ob_store.specs.declared.line.Start.TheVariants.{Format, Run}

-- `L x`, `R c`, `W c` or `S`, and a line feed
abbrev pub line_of : Note → List ℕ
line_of (Label x) = 76 ∷ 32 ∷ decimal x ++ 10 ∷ []
line_of (Read c) = 82 ∷ 32 ∷ decimal c ++ 10 ∷ []
line_of (Write c) = 87 ∷ 32 ∷ decimal c ++ 10 ∷ []
line_of Sync = 83 ∷ 10 ∷ []

-- a blank and a number
abbrev pub blank_number : ℕ → List ℕ
blank_number n = 32 ∷ decimal n

-- the line before the notes of a new store: `P` and the nine parameters
abbrev pub start_line : Params → List ℕ
start_line p =
    80 ∷ blank_number p.keys ++ blank_number p.levels ++ blank_number p.real ++ blank_number p.dummies ++ blank_number p.batches ++ blank_number p.places
    ++ blank_number p.writes ++ blank_number p.evictions ++ blank_number p.room ++ 10 ∷ []

-- the line before the notes of a run: `O`, or `O M` where it has a mirror
abbrev pub open_line : Bool → List ℕ
open_line false = 79 ∷ 10 ∷ []
open_line true = 79 ∷ 32 ∷ 77 ∷ 10 ∷ []

-- how a trace begins
abbrev pub first_line : Start → List ℕ
first_line (Format p) = start_line p
first_line (Run mirrored) = open_line mirrored

-- the lines of these notes, one behind the other
abbrev pub lines_of : List Note → List ℕ
lines_of [] = []
lines_of (note ∷ notes) = line_of note ++ lines_of notes

-- All that a watch tells.
pub record Trace : Type 0 where
  -- the bytes that it has written, where it tells them
  pub written : Option (List ℕ)
  -- it writes no more
  pub broken : Bool
  -- how often its sink has failed
  pub faults : ℕ
  -- the references that it holds
  pub anchors : List GName

-- what a watch tells that writes to this sink
abbrev pub sink_trace : Option (List ℕ) → Bool → ℕ → GName → Trace
sink_trace written broken faults sink = record { written = written; broken = broken; faults = faults; anchors = sink ∷ [] }

-- The lines stand behind what was written, or a front of them where the watch breaks. Once broken it writes nothing.
abbrev pub AddsLines : List ℕ → Bool → Bool → Option (List ℕ) → Option (List ℕ) → Type 0
AddsLines lines was is None None = Unit {0}
AddsLines lines true is (Some old) (Some new) = new ≡ old
AddsLines lines false true (Some old) (Some new) = (n : ℕ) × (n ≤ length lines) × (new ≡ old ++ take n lines)
AddsLines lines false false (Some old) (Some new) = new ≡ old ++ lines
AddsLines lines was is None (Some new) = ⊥
AddsLines lines was is (Some old) None = ⊥

-- a watch breaks only where the count of its sink rose, and stays so
abbrev pub BreaksOnly : Bool → Bool → ℕ → ℕ → Type 0
BreaksOnly false true before now = Rose before now
BreaksOnly true false before now = ⊥
BreaksOnly was is before now = Unit {0}

-- These lines were written, and no more.
pub record AddsOnly (text : List ℕ) (old new : Trace) : Type 0 where
  pub anchors : new.anchors ≡ old.anchors
  pub faults : old.faults ≤ new.faults
  pub breaks : BreaksOnly old.broken new.broken old.faults new.faults
  pub lines : AddsLines text old.broken new.broken old.written new.written

-- These notes were shown, and no more.
abbrev pub Shows : List Note → Trace → Trace → Type 0
Shows notes old new = AddsOnly (lines_of notes) old new

-- some of these notes, the first ones, were shown
abbrev pub ShowsFirst : List Note → Trace → Trace → Type 0
ShowsFirst notes old new = (n : ℕ) × (n ≤ length notes) × Shows (take n notes) old new
