-- The notes of a run of cells.
use Rattle.std.specs.Prelude.{ℕ, zero, suc, ◌+◌, List, [], ◌∷◌, ◌++◌, map}
use Rattle.ob_store.specs.declared.watch.Note.{Note}
use Rattle.ob_store.specs.declared.watch.Note.TheVariants as note

-- so many numbers, the rising ones from a first one on
abbrev pub from_on : ℕ → ℕ → List ℕ
from_on base zero = []
from_on base (suc n) = from_on base n ++ (base + n) ∷ []

-- a write of each of so many cells, in rising order
abbrev pub write_notes : ℕ → ℕ → List Note
write_notes base n = map (λ cell. note.Write cell) (from_on base n)
