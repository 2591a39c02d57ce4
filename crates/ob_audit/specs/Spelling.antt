-- How the lines of a trace are spelled, without the line feed.
use Rattle.std.specs.Prelude.{◌≡◌, ◌<◌, ◌≤◌, ◌^◌, ◌⊎◌, ℕ, Bool, true, false, List, [], ◌∷◌, ◌++◌, length, decimal}
use Rattle.ob_base.specs.declared.params.Params.{Params}
use Rattle.ob_store.specs.declared.watch.Note.{Note}
use Rattle.ob_store.specs.declared.watch.Note.TheVariants as N
use Rattle.ob_store.specs.Lines.{line_of, start_line, open_line}
use Rattle.ob_schedule.specs.declared.line.Line.{Line}
use Rattle.ob_schedule.specs.declared.line.Line.TheVariants as L

abbrev pub note_text : Note → List ℕ
note_text (N.Label x) = 76 ∷ 32 ∷ decimal x
note_text (N.Read c) = 82 ∷ 32 ∷ decimal c
note_text (N.Write c) = 87 ∷ 32 ∷ decimal c
note_text N.Sync = 83 ∷ []

-- the nine numbers, with a blank between them
abbrev pub numbers_text : Params → List ℕ
numbers_text p =
    decimal p.keys ++ (32 ∷ decimal p.levels ++ (32 ∷ decimal p.real ++ (32 ∷ decimal p.dummies ++ (32 ∷ decimal p.batches ++ (32 ∷ decimal p.places
    ++ (32 ∷ decimal p.writes ++ (32 ∷ decimal p.evictions ++ 32 ∷ decimal p.room)))))))

-- a run's line, with a mirror or without one
abbrev pub open_text : Bool → List ℕ
open_text false = 79 ∷ []
open_text true = 79 ∷ 32 ∷ 77 ∷ []

-- the bytes are the line's
abbrev pub IsLineSpelled : Line → List ℕ → Type 0
IsLineSpelled (L.Start p) bytes = bytes ≡ 80 ∷ 32 ∷ numbers_text p
IsLineSpelled (L.Open mirrored) bytes = bytes ≡ open_text mirrored
IsLineSpelled (L.Note note) bytes = bytes ≡ note_text note
IsLineSpelled L.Bad bytes = ⊥

-- a label or a cell is below 2^64
abbrev pub IsNoteInRange : Note → Type 0
IsNoteInRange (N.Label x) = x < 2 ^ 64
IsNoteInRange (N.Read c) = c < 2 ^ 64
IsNoteInRange (N.Write c) = c < 2 ^ 64
IsNoteInRange N.Sync = Unit {0}

abbrev pub IsLineInRange : Line → Type 0
IsLineInRange (L.Start p) = Unit {0}
IsLineInRange (L.Open mirrored) = Unit {0}
IsLineInRange (L.Note note) = IsNoteInRange note
IsLineInRange L.Bad = Unit {0}

-- the line is spelled by these bytes, which are no more than a line may have
pub record SpellsLine (bytes : List ℕ) (line : Line) : Type 0 where
  pub spelled : IsLineSpelled line bytes
  pub in_range : IsLineInRange line
  pub short : length bytes ≤ 96

-- The line that the bytes are: the one that they spell; a bad one just where they spell none.
abbrev pub IsLineOf : List ℕ → Line → Type 0
IsLineOf bytes line = SpellsLine bytes line ⊎ ((line ≡ L.Bad) × ((l : Line) → SpellsLine bytes l → ⊥))

-- The bytes of a line and a line feed are what whoever writes a trace writes.
pub record LinesAreTheWriters : Type 0 where
  pub starts : (p : Params) (bytes : List ℕ) → IsLineSpelled (L.Start p) bytes → bytes ++ 10 ∷ [] ≡ start_line p
  pub opens : (mirrored : Bool) (bytes : List ℕ) → IsLineSpelled (L.Open mirrored) bytes → bytes ++ 10 ∷ [] ≡ open_line mirrored
  pub notes : (note : Note) (bytes : List ℕ) → IsLineSpelled (L.Note note) bytes → bytes ++ 10 ∷ [] ≡ line_of note
