-- Buckets that are filled anew.
use Rattle.std.specs.Prelude.{◌≡◌, ◌≢◌, ◌↔◌, ℕ, ◌+◌, ◌-◌, ◌*◌, ◌%◌, ◌^◌, ◌<◌, Bool, true, false, List, take, drop, slice_index}
use Rattle.ob_base.specs.declared.params.Params.{Params}
use Rattle.ob_base.specs.Tree.{width}
use Rattle.ob_tables.specs.Rank.{ranks_of}
use Rattle.ob_tables.specs.Version.{Version}
use Rattle.ob_tables.specs.Buckets.{Buckets, version_at}
use Rattle.ob_schedule.specs.Paths.{is_one_of}
use Rattle.std.specs.declared.option.Option.TheVariants.{None}
use Rattle.ob_ring.specs.Arrays.{Arrays, Rest, arrays_of}
use Rattle.std.specs.FinMap as finite
use Rattle.ob_ring.specs.FlatTable.{FlatTable, in_stash}
use Rattle.ob_ring.specs.Settling.{Rows}

-- the arrays, where these buckets count as lifted
abbrev pub arrays_in : Buckets → (ℕ → Bool) → Rest → Arrays
arrays_in s lifted r = record (arrays_of s r) { lifted_at = lifted }

-- a bucket's new version lies in its other place, and is sealed in this generation with the numbers from this one on; the words say
-- its slots
pub record IsSealedAnew (old new : Version) (seal first : ℕ) (words : List ℕ) : Type 0 where
  pub home : new.home ≡ 1 - old.home
  pub under : new.generation ≡ seal
  pub from : new.base ≡ first
  pub ranks : new.ranks ≡ ranks_of words

-- the number with which the first slot of the i-th bucket is sealed, and the bucket's words
abbrev pub base_of : Params → ℕ × ℕ → ℕ → ℕ
base_of p first i = (first.1 + i * width p) % 2 ^ 64

abbrev pub words_of : Params → List ℕ → ℕ → List ℕ
words_of p words i = take (width p) (drop (i * width p) words)

-- the first n buckets of the list are sealed anew, the others are as before
pub record AreSealedAnew (p : Params) (old new : Buckets) (words : List ℕ) (first : ℕ × ℕ) (n : ℕ) : Type 0 where
  pub anew : (i : ℕ) → i < n → IsSealedAnew (version_at old.versions (slice_index old.order i)) (version_at new.versions (slice_index old.order i)) first.0 (base_of p first i) (words_of p words i)
  pub others : (u : ℕ) → is_one_of (take n old.order) u ≡ false → version_at new.versions u ≡ version_at old.versions u

-- each key that lies in no bucket has a row here
abbrev pub HasStashRows : FlatTable → Rows → Type 0
HasStashRows t rows = (k : ℕ) → in_stash (t.rows k) ≡ true → finite.get rows k ≢ None

-- each key that lies in no bucket has a row here, and no other key has one
abbrev pub HasJustStashRows : FlatTable → Rows → Type 0
HasJustStashRows t rows = (k : ℕ) → (in_stash (t.rows k) ≡ true) ↔ (finite.get rows k ≢ None)
