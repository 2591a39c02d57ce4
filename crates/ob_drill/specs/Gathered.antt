-- Private: rows that are gathered, and the keys of a batch.
use Rattle.std.specs.Prelude.{ℕ, ◌≡◌, ◌+◌, ◌≤◌, ◌<◌, List, length, Option, Some, None, slice_get}
use Rattle.ob_drill.specs.declared.rows.Rows.{Rows}
use Rattle.ob_drill.specs.Rows.{rows_below, bytes_of}

-- these are the rows of the keys below a bound
pub record HasRows (value : ℕ → Option (List ℕ)) (bound : ℕ) (rows : Rows) : Type 0 where
  pub bytes : rows.bytes.items ≡ bytes_of (rows_below value bound)
  pub many : rows.many ≡ length (rows_below value bound)

-- so many keys from the first on are asked for, and the other places are pads
pub record AsksFrom (first count : ℕ) (asks : List (Option ℕ)) : Type 0 where
  pub keys : (i : ℕ) → i < count → i < length asks → slice_get asks i ≡ Some (Some (first + i))
  pub pads : (i : ℕ) → count ≤ i → i < length asks → slice_get asks i ≡ Some None
