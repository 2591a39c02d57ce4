-- The physical slot of each index of a bucket: its place when the pairs of word and index are put in order.
use Rattle.std.specs.Prelude.{◌≡◌, ℕ, ◌<◌, Bool, ◌&&◌, ◌||◌, ◌==◌, nat_lt, List, length, slice_index, map}
use Rattle.std.specs.List.{count_by, range_with_len}

-- whether the pair (v, i) comes before the pair (w, j): the lesser word, at equal words the lesser index
abbrev pub comes_before : ℕ → ℕ → ℕ → ℕ → Bool
comes_before v i w j = nat_lt v w || ((v == w) && nat_lt i j)

-- how many indexes have a lesser pair of word and index
abbrev pub rank : List ℕ → ℕ → ℕ
rank words j = count_by (λ i. comes_before (slice_index words i) i (slice_index words j) j) (range_with_len 0 (length words))

-- the rank of each index
abbrev pub ranks_of : List ℕ → List ℕ
ranks_of words = map (λ j. rank words j) (range_with_len 0 (length words))

-- each of n indexes has a place below n, no two have the same, and each place is taken
pub record IsRanking (n : ℕ) (place : ℕ → ℕ) : Type 0 where
  pub within : (j : ℕ) → j < n → place j < n
  pub apart : (i j : ℕ) → i < n → j < n → place i ≡ place j → i ≡ j
  pub onto : (s : ℕ) → s < n → (j : ℕ) × (j < n) × (place j ≡ s)
