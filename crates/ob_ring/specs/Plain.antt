-- What a slot of a filled bucket holds, and the stash after its rows were written.
use Rattle.std.specs.Prelude.{ℕ, ◌==◌, List, [], ◌∷◌, Option, length, replicate, unwrap_or}
use Rattle.std.specs.declared.option.Option.TheVariants.{None, Some}
use Rattle.std.specs.List.{find, range_with_len}
use Rattle.std.specs.Int.{w32, to_le_bytes}
use Rattle.std.specs.FinMap as finite
use Rattle.ob_base.specs.LittleEndian.{with_part}
use Rattle.ob_tables.specs.Version.{Version, EMPTY, key_at, rank_at}
use Rattle.ob_tables.specs.Buckets.{version_at}
use Rattle.ob_ring.specs.Settling.{Rows}

-- 96 zeros with a key's number, a value's length and the value in their places
abbrev pub row_plain : ℕ → List ℕ → List ℕ
row_plain key value = with_part (with_part (with_part (replicate 96 0) 0 (to_le_bytes w32 key)) 4 (length value ∷ [])) 5 value

-- the index that has a slot
abbrev pub index_with : Version → ℕ → Option ℕ
index_with v slot = find (λ j. rank_at v j == slot) (range_with_len 0 (length v.ranks))

abbrev pub key_of_index : Version → Option ℕ → Option ℕ
key_of_index v None = None
key_of_index v (Some j) = key_at v j

-- a slot that holds no row has the number of no key
abbrev pub plain_for : Rows → Option ℕ → List ℕ
plain_for rows None = row_plain EMPTY []
plain_for rows (Some key) = row_plain key (unwrap_or (finite.get rows key) [])

-- the rows but those of these keys
abbrev pub without : Rows → List (Option ℕ) → Rows
without rows [] = rows
without rows (None ∷ ks) = without rows ks
without rows (Some k ∷ ks) = without (finite.remove rows k) ks

-- the rows but those of the keys that lie in these buckets
abbrev pub without_buckets : Rows → List Version → List ℕ → Rows
without_buckets rows versions [] = rows
without_buckets rows versions (u ∷ us) = without_buckets (without rows (version_at versions u).keys) versions us
