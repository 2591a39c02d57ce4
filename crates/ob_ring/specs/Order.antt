-- Private: the order in which a lift reads the indexes of a version.
use Rattle.std.specs.Prelude.{◌≡◌, ℕ, Bool, true, false, not, ◌&&◌, List, ◌++◌, take, filter, length, Option, slice_index_or}
use Rattle.std.specs.declared.option.Option.TheVariants.{None, Some}
use Rattle.std.specs.List.{range_with_len}

abbrev pub is_key : Option ℕ → Bool
is_key None = false
is_key (Some k) = true

abbrev pub is_live : List (Option ℕ) → ℕ → Bool
is_live keys j = is_key (slice_index_or keys j None)

abbrev pub is_spare : List (Option ℕ) → List Bool → ℕ → Bool
is_spare keys used j = not (is_live keys j) && not (slice_index_or used j false)

-- the live indexes rising, then the other unread ones rising, as many as there are real ones
abbrev pub order_of : List (Option ℕ) → List Bool → List ℕ
order_of keys used = take (length keys) (filter (is_live keys) (range_with_len 0 (length used)) ++ filter (is_spare keys used) (range_with_len 0 (length used)))

-- the first n numbers written are the first `limit` ones of this list
pub record HoldsFirst (out : List ℕ) (n limit : ℕ) (xs : List ℕ) : Type 0 where
  pub many : n ≡ length (take limit xs)
  pub are : take n out ≡ take limit xs
