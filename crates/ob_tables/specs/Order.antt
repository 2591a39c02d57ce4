-- Private: pairs of a word and its index, by which words give the order of slots.
use Rattle.std.specs.Prelude.{◌≡◌, ℕ, ◌<◌, List, length, slice_index, slice_index_or, map}
use Rattle.std.specs.List.{range_with_len}

-- each word with its index
abbrev pub numbered : List ℕ → List (ℕ × ℕ)
numbered words = map (λ i. (slice_index words i, i)) (range_with_len 0 (length words))

-- the index of the pair at a place
abbrev pub index_at : List (ℕ × ℕ) → ℕ → ℕ
index_at order k = (slice_index_or order k (0, 0)).1

-- no two pairs have one index
abbrev pub AreApart : List (ℕ × ℕ) → Type 0
AreApart order = (i j : ℕ) → i < length order → j < length order → index_at order i ≡ index_at order j → i ≡ j
