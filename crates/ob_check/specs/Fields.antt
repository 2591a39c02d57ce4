-- The numbers in a checkpoint's bytes, by their places.
use Rattle.std.specs.Prelude.{ℕ, ◌+◌, ◌*◌, ◌==◌, Bool, List, take, drop, slice_index}
use Rattle.std.specs.Int.{w32}
use Rattle.ob_base.specs.declared.params.Params.{Params}
use Rattle.ob_base.specs.LittleEndian.{field_at}
use Rattle.ob_base.specs.Layout.{meta_len}
use Rattle.ob_base.specs.Tree.{buckets}

abbrev pub byte_at : List ℕ → ℕ → ℕ
byte_at bytes at = slice_index bytes at

-- ---- a key

abbrev pub entry_place : ℕ → ℕ
entry_place k = 16 + 21 * k

abbrev pub is_present : List ℕ → ℕ → Bool
is_present bytes k = byte_at bytes (entry_place k) == 1

abbrev pub leaf_in : List ℕ → ℕ → ℕ
leaf_in bytes k = field_at w32 bytes (entry_place k + 17)

-- ---- a bucket

unfoldable pub bucket_place : Params → ℕ → ℕ
bucket_place p u = 16 + 21 * p.keys + u * meta_len p

abbrev pub key_place : Params → ℕ → ℕ → ℕ
key_place p u j = bucket_place p u + 17 + 4 * j

abbrev pub index_place : Params → ℕ → ℕ → ℕ
index_place p u i = bucket_place p u + 17 + 4 * p.real + 2 * i

-- the number in the place of a real index's key
abbrev pub number_in : Params → List ℕ → ℕ → ℕ → ℕ
number_in p bytes u j = field_at w32 bytes (key_place p u j)

abbrev pub rank_in : Params → List ℕ → ℕ → ℕ → ℕ
rank_in p bytes u i = byte_at bytes (index_place p u i)

abbrev pub mark_in : Params → List ℕ → ℕ → ℕ → ℕ
mark_in p bytes u i = byte_at bytes (index_place p u i + 1)

-- ---- the stash

abbrev pub count_place : Params → ℕ
count_place p = bucket_place p (buckets p)

abbrev pub count_in : Params → List ℕ → ℕ
count_in p bytes = field_at w32 bytes (count_place p)

abbrev pub row_place : Params → ℕ → ℕ
row_place p i = count_place p + 4 + 69 * i

abbrev pub row_key_in : Params → List ℕ → ℕ → ℕ
row_key_in p bytes i = field_at w32 bytes (row_place p i)

abbrev pub row_len_in : Params → List ℕ → ℕ → ℕ
row_len_in p bytes i = byte_at bytes (row_place p i + 4)

abbrev pub row_value_in : Params → List ℕ → ℕ → List ℕ
row_value_in p bytes i = take (row_len_in p bytes i) (drop (row_place p i + 5) bytes)
