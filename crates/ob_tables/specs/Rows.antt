-- Rows in rising key order.
use Rattle.std.specs.Prelude.{◌<◌, ◌≤◌, ℕ, List, length, not, T, slice_index_or, []}
use Rattle.std.specs.Ordering.{nat_cmp, eq_by_cmp}
use Rattle.std.specs.FinMap.{is_sorted}
use Rattle.std.specs.List.{filter}

-- the key of a row
abbrev pub row_key_at : List (ℕ × List ℕ) → ℕ → ℕ
row_key_at rows j = (slice_index_or rows j (0, [])).0

-- each key is above the one before it
abbrev pub Rises : List (ℕ × List ℕ) → Type 0
Rises rows = T (is_sorted nat_cmp rows)

-- the rows of the other keys
abbrev pub rows_but : ℕ → List (ℕ × List ℕ) → List (ℕ × List ℕ)
rows_but k rows = filter (λ row. not (eq_by_cmp nat_cmp k row.0)) rows

-- a place in front of which the keys are lesser, and from which on they aren't
pub record Splits (k : ℕ) (rows : List (ℕ × List ℕ)) (i : ℕ) : Type 0 where
  pub within : i ≤ length rows
  pub before : (j : ℕ) → j < i → row_key_at rows j < k
  pub after : (j : ℕ) → i ≤ j → j < length rows → k ≤ row_key_at rows j
