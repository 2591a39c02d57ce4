-- What is kept of a bucket: the version that lies in the store now.
use Rattle.std.specs.Prelude.{◌≡◌, ◌<◌, ◌≤◌, ◌==◌, ℕ, ◌+◌, ◌-◌, ◌*◌, ◌^◌, Bool, false, not, List, [], ◌∷◌, ◌++◌, Option, Some, None, if◌then◌else◌, map, replicate, length, slice_index, slice_index_or}
use Rattle.std.specs.List.{count_by, find, flat_map, range_with_len}
use Rattle.std.specs.Int.{w32, w64, to_le_bytes}
use Rattle.ob_base.specs.declared.params.Params.{Params}
use Rattle.ob_base.specs.Tree.{width}
use Rattle.ob_tables.specs.Rank.{ranks_of}

pub record Version : Type 0 where
  -- which of the bucket's two places in the store it lies in
  pub home : ℕ
  -- its slots are sealed in this generation, with the numbers from this one on
  pub generation : ℕ
  pub base : ℕ
  -- the key of each real index, if it holds one
  pub keys : List (Option ℕ)
  -- of each index its physical slot, and whether it was shown
  pub ranks : List ℕ
  pub used : List Bool

abbrev pub key_at : Version → ℕ → Option ℕ
key_at v j = slice_index_or v.keys j None

abbrev pub rank_at : Version → ℕ → ℕ
rank_at v j = slice_index v.ranks j

abbrev pub used_at : Version → ℕ → Bool
used_at v j = slice_index_or v.used j false

-- the dummy indexes come after the real ones
abbrev pub dummies_of : Version → List ℕ
dummies_of v = range_with_len (length v.keys) (length v.used - length v.keys)

-- the lowest dummy index that wasn't shown
abbrev pub next_dummy : Version → Option ℕ
next_dummy v = find (λ j. not (used_at v j)) (dummies_of v)

abbrev pub is_key : ℕ → Option ℕ → Bool
is_key key None = false
is_key key (Some k) = k == key

-- the real index that holds the key
abbrev pub live_index : Version → ℕ → Option ℕ
live_index v key = find (λ j. is_key key (key_at v j)) (range_with_len 0 (length v.keys))

-- a new version: these keys in the first real indexes, nothing shown
abbrev pub filled : Version → ℕ → ℕ → ℕ → List ℕ → List ℕ → Version
filled v home generation base keys words = record {
  home = home;
  generation = generation;
  base = base;
  keys = map (λ k. Some k) keys ++ replicate (length v.keys - length keys) None;
  ranks = ranks_of words;
  used = replicate (length words) false;
}

-- a new version with the keys where they lie, nothing shown
abbrev pub sealed_anew : Version → ℕ → ℕ → ℕ → List ℕ → Version
sealed_anew v home generation base words = record {
  home = home;
  generation = generation;
  base = base;
  keys = v.keys;
  ranks = ranks_of words;
  used = replicate (length words) false;
}

-- the version before any was written: no key, each index in the slot of its own number
abbrev pub blank : Params → Version
blank p = record {
  home = 0;
  generation = 0;
  base = 0;
  keys = replicate p.real None;
  ranks = range_with_len 0 (width p);
  used = replicate (width p) false;
}

-- ---- rules

-- each index has a slot of the bucket, and no two have the same
pub record AreRanks (ranks : List ℕ) : Type 0 where
  pub low : (j : ℕ) → j < length ranks → slice_index ranks j < length ranks
  pub apart : (i j : ℕ) → i < length ranks → j < length ranks → slice_index ranks i ≡ slice_index ranks j → i ≡ j

-- what each version obeys at all times
pub record IsWhole (v : Version) : Type 0 where
  pub home : v.home < 2
  pub keys : length v.keys ≤ length v.ranks
  pub used : length v.used ≡ length v.ranks
  pub ranks : AreRanks v.ranks

-- it has the slots of these parameters
pub record HasSlots (p : Params) (v : Version) : Type 0 where
  pub keys : length v.keys ≡ p.real
  pub ranks : length v.ranks ≡ width p
  pub used : length v.used ≡ width p

-- the number that spells a real index without a key
abbrev pub EMPTY : ℕ
EMPTY = 4294967295

-- no index that holds a key was shown
abbrev pub IsUnshown : List (Option ℕ) → List Bool → Type 0
IsUnshown keys used = (j k : ℕ) → slice_index_or keys j None ≡ Some k → slice_index_or used j false ≡ false

-- The marks of a version at an epoch's end: of those indexes, and fewer shown ones than there are dummies.
pub record MarksObey (dummies : ℕ) (keys : List (Option ℕ)) (used : List Bool) : Type 0 where
  pub unshown : IsUnshown keys used
  pub few : count_by (λ u. u) used < dummies

-- what a version obeys at an epoch's end
pub record VersionObeys (p : Params) (v : Version) : Type 0 where
  pub slots : HasSlots p v
  pub home : v.home < 2
  pub ranks : AreRanks v.ranks
  pub marks : MarksObey p.dummies v.keys v.used

-- its numbers fit their fields
pub record FitsFields (v : Version) : Type 0 where
  pub generation : v.generation < 2 ^ 64
  pub base : v.base < 2 ^ 64
  pub keys : (j k : ℕ) → key_at v j ≡ Some k → k < EMPTY

-- ---- spelling

abbrev pub key_bytes : Option ℕ → List ℕ
key_bytes None = to_le_bytes w32 EMPTY
key_bytes (Some k) = to_le_bytes w32 k

abbrev pub mark_of : Bool → ℕ
mark_of b = if b then 1 else 0

-- of each index its rank and its mark
abbrev pub index_bytes : List ℕ → List Bool → List ℕ
index_bytes [] us = []
index_bytes (r ∷ rs) [] = []
index_bytes (r ∷ rs) (u ∷ us) = r ∷ mark_of u ∷ index_bytes rs us

abbrev pub version_bytes : Version → List ℕ
version_bytes v = v.home ∷ to_le_bytes w64 v.generation ++ (to_le_bytes w64 v.base ++ (flat_map key_bytes v.keys ++ index_bytes v.ranks v.used))

-- how many bytes it takes
abbrev pub version_len : Version → ℕ
version_len v = 17 + 4 * length v.keys + 2 * length v.ranks

-- the bytes spell the version, whatever the rules
pub record ReadsVersion (p : Params) (bytes : List ℕ) (v : Version) : Type 0 where
  pub home : v.home < 2
  pub slots : HasSlots p v
  pub fits : FitsFields v
  pub is : version_bytes v ≡ bytes

-- the bytes spell a version that obeys the rules
pub record Spells (p : Params) (bytes : List ℕ) (v : Version) : Type 0 where
  pub obeys : VersionObeys p v
  pub fits : FitsFields v
  pub is : version_bytes v ≡ bytes

-- what is spelled is read: two versions that the same bytes spell are one
abbrev pub SpelledOnce : Type 0
SpelledOnce = (p : Params) (bytes : List ℕ) (v w : Version) → Spells p bytes v → Spells p bytes w → v ≡ w
