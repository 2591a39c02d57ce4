-- The rules of the numbers in a checkpoint's bytes, in the order of the bytes. What stands in an absent key's other numbers,
-- behind a value and behind the stash's rows obeys none.
use Rattle.std.specs.Prelude.{ℕ, ◌+◌, ◌^◌, ◌==◌, nat_lt, nat_le, Bool, not, ◌&&◌, ◌||◌, List, [], ◌∷◌, ◌++◌, map, filter, length, slice_index, unwrap_or}
use Rattle.std.specs.List.{find, flat_map, list_any, count_by}
use Rattle.std.specs.Int.{w64}
use Rattle.ob_base.specs.declared.params.Params.{Params}
use Rattle.ob_base.specs.LittleEndian.{field_at}
use Rattle.ob_base.specs.Tree.{buckets, width, below, passes}
use Rattle.ob_tables.specs.Version.{EMPTY}
use Rattle.ob_check.specs.Fields.{byte_at, entry_place, is_present, leaf_in, bucket_place, key_place, index_place, number_in, rank_in, mark_in, count_place, count_in, row_place, row_key_in, row_len_in}
use Rattle.ob_cells.specs.Rules.{Rule}

abbrev pub is_among : List ℕ → ℕ → Bool
is_among xs x = list_any (λ y. y == x) xs

abbrev pub counter_rules : Params → List ℕ → List Rule
counter_rules p bytes = record { place = 8; kept = field_at w64 bytes 8; obeys = nat_lt (field_at w64 bytes 8) (2 ^ p.levels); least = 0 } ∷ []

-- ---- a key: whether it is present, and its leaf where it is

abbrev pub present_rule : List ℕ → ℕ → Rule
present_rule bytes k = record { place = entry_place k; kept = byte_at bytes (entry_place k); obeys = nat_le (byte_at bytes (entry_place k)) 1; least = 0 }

abbrev pub leaf_rule : Params → List ℕ → ℕ → Rule
leaf_rule p bytes k = record { place = entry_place k + 17; kept = leaf_in bytes k; obeys = not (is_present bytes k) || nat_lt (leaf_in bytes k) (2 ^ p.levels); least = 0 }

abbrev pub entry_rules : Params → List ℕ → ℕ → List Rule
entry_rules p bytes k = present_rule bytes k ∷ leaf_rule p bytes k ∷ []

-- ---- a bucket

-- the numbers in the places of its first keys, and those of all buckets before one
abbrev pub numbers_in : Params → List ℕ → ℕ → ℕ → List ℕ
numbers_in p bytes u n = map (number_in p bytes u) (below n)

abbrev pub placed_in : Params → List ℕ → ℕ → List ℕ
placed_in p bytes u = flat_map (λ v. numbers_in p bytes v p.real) (below u)

abbrev pub placed_before : Params → List ℕ → ℕ → ℕ → List ℕ
placed_before p bytes u j = placed_in p bytes u ++ numbers_in p bytes u j

-- a key may lie in a bucket where it is present, its path passes the bucket, and it lies in no earlier place
abbrev pub may_lie : Params → List ℕ → ℕ → List ℕ → ℕ → Bool
may_lie p bytes u placed k = is_present bytes k && (passes p u (leaf_in bytes k) && not (is_among placed k))

abbrev pub may_stand : Params → List ℕ → ℕ → List ℕ → ℕ → Bool
may_stand p bytes u placed number = (number == EMPTY) || (nat_lt number p.keys && may_lie p bytes u placed number)

-- the least key that may lie there, else the number of none
abbrev pub least_key : Params → List ℕ → ℕ → List ℕ → ℕ
least_key p bytes u placed = unwrap_or (find (may_lie p bytes u placed) (below p.keys)) EMPTY

abbrev pub key_rule : Params → List ℕ → ℕ → ℕ → Rule
key_rule p bytes u j = record {
  place = key_place p u j;
  kept = number_in p bytes u j;
  obeys = may_stand p bytes u (placed_before p bytes u j) (number_in p bytes u j);
  least = least_key p bytes u (placed_before p bytes u j);
}

abbrev pub key_rules : Params → List ℕ → ℕ → ℕ → List Rule
key_rules p bytes u j = key_rule p bytes u j ∷ []

-- the ranks of the indexes before one, and how many of them were shown
abbrev pub ranks_in : Params → List ℕ → ℕ → ℕ → List ℕ
ranks_in p bytes u i = map (rank_in p bytes u) (below i)

abbrev pub shown_in : Params → List ℕ → ℕ → ℕ → ℕ
shown_in p bytes u i = count_by (λ n. mark_in p bytes u n == 1) (below i)

abbrev pub holds_key : Params → List ℕ → ℕ → ℕ → Bool
holds_key p bytes u i = nat_lt i p.real && not (number_in p bytes u i == EMPTY)

abbrev pub may_rank : Params → List ℕ → ℕ → Bool
may_rank p taken rank = nat_lt rank (width p) && not (is_among taken rank)

abbrev pub least_rank : Params → List ℕ → ℕ
least_rank p taken = unwrap_or (find (λ rank. not (is_among taken rank)) (below (width p))) 0

-- an index that holds a key wasn't shown, and fewer were than there are dummies
abbrev pub may_mark : Params → Bool → ℕ → ℕ → Bool
may_mark p holds shown mark = (mark == 0) || ((mark == 1) && (not holds && nat_lt (shown + 1) p.dummies))

abbrev pub rank_rule : Params → List ℕ → ℕ → ℕ → Rule
rank_rule p bytes u i = record { place = index_place p u i; kept = rank_in p bytes u i; obeys = may_rank p (ranks_in p bytes u i) (rank_in p bytes u i); least = least_rank p (ranks_in p bytes u i) }

abbrev pub mark_rule : Params → List ℕ → ℕ → ℕ → Rule
mark_rule p bytes u i = record { place = index_place p u i + 1; kept = mark_in p bytes u i; obeys = may_mark p (holds_key p bytes u i) (shown_in p bytes u i) (mark_in p bytes u i); least = 0 }

abbrev pub index_rules : Params → List ℕ → ℕ → ℕ → List Rule
index_rules p bytes u i = rank_rule p bytes u i ∷ mark_rule p bytes u i ∷ []

abbrev pub home_rule : Params → List ℕ → ℕ → Rule
home_rule p bytes u = record { place = bucket_place p u; kept = byte_at bytes (bucket_place p u); obeys = nat_le (byte_at bytes (bucket_place p u)) 1; least = 0 }

abbrev pub home_rules : Params → List ℕ → ℕ → List Rule
home_rules p bytes u = home_rule p bytes u ∷ []

abbrev pub bucket_rules : Params → List ℕ → ℕ → List Rule
bucket_rules p bytes u = home_rules p bytes u ++ (flat_map (key_rules p bytes u) (below p.real) ++ flat_map (index_rules p bytes u) (below (width p)))

-- ---- the stash: its rows are those of the present keys that lie in no bucket, rising

abbrev pub is_loose : Params → List ℕ → ℕ → Bool
is_loose p bytes k = is_present bytes k && not (is_among (placed_in p bytes (buckets p)) k)

abbrev pub loose_keys : Params → List ℕ → List ℕ
loose_keys p bytes = filter (is_loose p bytes) (below p.keys)

abbrev pub many_rule : Params → List ℕ → Rule
many_rule p bytes = record { place = count_place p; kept = count_in p bytes; obeys = count_in p bytes == length (loose_keys p bytes); least = length (loose_keys p bytes) }

abbrev pub room_rule : Params → List ℕ → Rule
room_rule p bytes = record { place = count_place p; kept = count_in p bytes; obeys = nat_le (count_in p bytes) p.room; least = p.room }

abbrev pub count_rules : Params → List ℕ → List Rule
count_rules p bytes = many_rule p bytes ∷ room_rule p bytes ∷ []

abbrev pub row_key_rule : Params → List ℕ → ℕ → Rule
row_key_rule p bytes i = record { place = row_place p i; kept = row_key_in p bytes i; obeys = row_key_in p bytes i == slice_index (loose_keys p bytes) i; least = slice_index (loose_keys p bytes) i }

abbrev pub row_len_rule : Params → List ℕ → ℕ → Rule
row_len_rule p bytes i = record { place = row_place p i + 4; kept = row_len_in p bytes i; obeys = nat_le (row_len_in p bytes i) 64; least = 0 }

abbrev pub row_rules : Params → List ℕ → ℕ → List Rule
row_rules p bytes i = row_key_rule p bytes i ∷ row_len_rule p bytes i ∷ []

-- ---- all of them

abbrev pub stash_rules : Params → List ℕ → List Rule
stash_rules p bytes = count_rules p bytes ++ flat_map (row_rules p bytes) (below (length (loose_keys p bytes)))

abbrev pub rules : Params → List ℕ → List Rule
rules p bytes =
    counter_rules p bytes ++ (flat_map (entry_rules p bytes) (below p.keys) ++ (flat_map (bucket_rules p bytes) (below (buckets p)) ++ stash_rules p bytes))
