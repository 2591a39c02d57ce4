-- What the picks of the flat table read, and the fills that they give the public schedule.
use Rattle.std.specs.Prelude.{ℕ, ◌==◌, ◌&&◌, cond, List, [], ◌∷◌, ◌++◌, map, Option}
use Rattle.ob_base.specs.declared.params.Params.{Params}
use Rattle.ob_base.specs.Layout.{slot_cell}
use Rattle.ob_store.specs.declared.watch.Note.{Note}
use Rattle.ob_store.specs.declared.watch.Note.TheVariants.{Label, Read}
use Rattle.ob_schedule.specs.Holes.{Hole}
use Rattle.ob_ring.specs.FlatTable.{FlatTable, Shown, leaf_shown, place_shown, after_place}

-- the fills that a list of shown indexes gives, where each rank is its index
abbrev pub index_at : List Shown → Hole → ℕ
index_at [] h = 0
index_at (s ∷ ss) h = cond ((s.bucket == h.bucket) && (s.number == h.number)) s.index (index_at ss h)

-- ---- what the planner's picks read, place by place: the cell of each index's physical slot
abbrev pub picked_reads : Params → (ℕ → ℕ) → (ℕ → ℕ → ℕ) → List Shown → List Note
picked_reads p homes slot ss = map (λ s. Read (slot_cell p (homes s.bucket) s.bucket (slot s.bucket s.index))) ss

abbrev pub picked_notes : Params → (ℕ → ℕ) → (ℕ → ℕ → ℕ) → FlatTable → List (Option ℕ × ℕ) → List Note
picked_notes p homes slot t [] = []
picked_notes p homes slot t (a ∷ rest) = (Label (leaf_shown t a.0 a.1) ∷ picked_reads p homes slot (place_shown p t a.0 a.1)) ++ picked_notes p homes slot (after_place p t a.0 a.1) rest

-- the fills read off a list of shown indexes
abbrev pub slot_read_off : (ℕ → ℕ → ℕ) → List Shown → Hole → ℕ
slot_read_off slot ss h = slot h.bucket (index_at ss h)
