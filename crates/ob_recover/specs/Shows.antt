-- What is shown of planned jobs, place by place.
use Rattle.std.specs.Prelude.{◌<◌, ◌≤◌, ℕ, zero, suc, ◌+◌, ◌-◌, List, ◌∷◌, ◌++◌, length, map, take, drop, slice_index_or}
use Rattle.ob_base.specs.declared.job.Place.{Place}
use Rattle.ob_base.specs.Planned.{Planned}
use Rattle.ob_store.specs.declared.watch.Note.{Note}
use Rattle.ob_store.specs.declared.watch.Note.TheVariants.{Label, Read}

-- a place by its number; behind the last one stand no jobs
abbrev pub shown_place_at : Planned → ℕ → Place
shown_place_at s i = slice_index_or s.places i (record { leaf = 0; first = length s.jobs })

-- how many jobs stand before those of the place behind
abbrev pub place_end : Planned → ℕ → ℕ
place_end s i = (shown_place_at s (i + 1)).first

-- each place's jobs stand before those of the next one
abbrev pub ArePlaced : Planned → Type 0
ArePlaced s = (i : ℕ) → i < length s.places → ((shown_place_at s i).first ≤ place_end s i) × (place_end s i ≤ length s.jobs)

abbrev pub notes_of_place : Planned → ℕ → List Note
notes_of_place s i = Label (shown_place_at s i).leaf ∷ map (λ j. Read j.cell) (take (place_end s i - (shown_place_at s i).first) (drop (shown_place_at s i).first s.jobs))

-- the jobs before the first place, and the first n places
abbrev pub placed_notes : Planned → ℕ → List Note
placed_notes s zero = map (λ j. Read j.cell) (take (shown_place_at s 0).first s.jobs)
placed_notes s (suc n) = placed_notes s n ++ notes_of_place s n
