-- The position map as a finite map.
use Rattle.std.specs.Prelude.{ℕ, ◌≡◌, ◌<◌, ◌+◌, List, [], ◌∷◌, length, replicate, slice_set, Option, Some, None}
use Rattle.std.specs.Ordering.{nat_cmp}
use Rattle.std.specs.FinMap as map
use Rattle.ob_tables.specs.declared.entry.Entry.{Entry}
use Rattle.ob_tables.specs.Kept.{entry_at}

-- the keys that are present, from this one on, with their entries
abbrev pub present_from : ℕ → List (Option Entry) → List (ℕ × Entry)
present_from k [] = []
present_from k (None ∷ es) = present_from (k + 1) es
present_from k (Some e ∷ es) = (k, e) ∷ present_from (k + 1) es

-- the entries of the keys that are present
abbrev pub map_of : List (Option Entry) → map.FinMap nat_cmp Entry
map_of book = map.from_entries (present_from 0 book)

-- what the calls on a book do is what they do on its map
pub record BooksAreMaps : Type 0 where
  pub none : (n : ℕ) → map_of (replicate n None) ≡ map.empty
  pub get : (book : List (Option Entry)) (k : ℕ) → entry_at book k ≡ map.get (map_of book) k
  pub set : (book : List (Option Entry)) (k : ℕ) (e : Entry) → k < length book → map_of (slice_set book k (Some e)) ≡ map.insert (map_of book) k e
  pub forget : (book : List (Option Entry)) (k : ℕ) → k < length book → map_of (slice_set book k None) ≡ map.remove (map_of book) k
