-- Private: what the loops of a refill go by.
use Rattle.std.specs.Prelude.{◌≡◌, ℕ, ◌+◌, ◌*◌, ◌≤◌, Bool, false, cond, not, ◌&&◌, List, length, take, Option, slice_index_or, slice_set}
use Rattle.std.specs.declared.option.Option.TheVariants.{Some}
use Rattle.std.specs.List.{find}
use Rattle.ob_base.specs.declared.params.Params.{Params}
use Rattle.ob_base.specs.Tree.{buckets}
use Rattle.ob_schedule.specs.Paths.{is_one_of}
use Rattle.ob_tables.specs.Buckets.{Buckets, version_at, with_version, is_lifted}
use Rattle.ob_tables.specs.Version.{key_at, used_at}
use Rattle.ob_tables.specs.declared.entry.Entry.{Entry}
use Rattle.ob_ring.specs.Arrays.{AreWhole, IsTableOf, arrays_of, rest_of}
use Rattle.ob_ring.specs.Filling.{AreSealedAnew, HasJustStashRows, IsSealedAnew}
use Rattle.ob_ring.specs.FlatTable.{FlatTable}
use Rattle.ob_ring.specs.Passing.{asking_steps, has_room, none_taken, passed_table, put_among, row_keys, steps_among, taken_by, upwards}
use Rattle.ob_ring.specs.Picked.{SameSeals}
use Rattle.ob_ring.specs.Settling.{Rows}
use Rattle.ob_ring.specs.Sound.{IsSound}

-- whether a bucket has room, by these counts
abbrev pub roomy : Params → Buckets → List ℕ → ℕ → Bool
roomy p metas counts = has_room p (λ u. is_lifted metas u) (λ u. slice_index_or counts u 0)

-- the deepest bucket of a leaf's path that has room
abbrev pub roomiest : Params → Buckets → List ℕ → ℕ → Option ℕ
roomiest p metas counts leaf = find (roomy p metas counts) (upwards p leaf (p.levels + 1))

-- The first n levels, from the leaf's on, had no bucket with room.
pub record Sought (p : Params) (room : ℕ → Bool) (leaf n old now : ℕ) : Type 0 where
  pub found : (m : ℕ) → n + m ≡ p.levels + 1 → find room (upwards p leaf m) ≡ find room (upwards p leaf (p.levels + 1))
  pub steps : (m : ℕ) → n + m ≡ p.levels + 1 → now + asking_steps room (upwards p leaf m) ≡ old + asking_steps room (upwards p leaf (p.levels + 1))

-- The counts, the steps, and how many rows were put, when the first n rows had their turns.
pub record CountsTo (p : Params) (book : List (Option Entry)) (rows : Rows) (metas : Buckets) (counts : List ℕ) (n old now put : ℕ) : Type 0 where
  pub long : length counts ≡ buckets p
  pub few : (u : ℕ) → slice_index_or counts u 0 ≤ p.real
  pub lifted_alone : (u : ℕ) → is_lifted metas u ≡ false → slice_index_or counts u 0 ≡ 0
  pub bound : now ≤ old + n * (p.levels + 2)
  pub put_few : put ≤ n
  pub counts_are : (counter : ℕ) (t : FlatTable) → HasJustStashRows t rows → IsTableOf p (arrays_of metas (rest_of book counter)) t → (u : ℕ) → slice_index_or counts u 0 ≡ taken_by p t none_taken (take n (row_keys rows)) u
  pub exact : (counter : ℕ) (t : FlatTable) → HasJustStashRows t rows → IsTableOf p (arrays_of metas (rest_of book counter)) t → now ≡ old + steps_among p t none_taken (take n (row_keys rows))
  pub puts : (counter : ℕ) (t : FlatTable) → HasJustStashRows t rows → IsTableOf p (arrays_of metas (rest_of book counter)) t → put ≡ put_among p t none_taken (take n (row_keys rows))

-- The first n rows of the stash had their turns: each that goes into a bucket lies at its next index. The buckets are lifted still, so the
-- table isn't sound; it may be unsound before too, where the store lies.
pub record PutsTo (p : Params) (book : List (Option Entry)) (rows : Rows) (old mid : Buckets) (counts : List ℕ) (n before now put : ℕ) : Type 0 where
  pub whole : AreWhole p mid
  pub seals : SameSeals old mid
  pub lifted : mid.lifted ≡ old.lifted
  pub others : (u : ℕ) → is_lifted old u ≡ false → version_at mid.versions u ≡ version_at old.versions u
  pub index : CountsTo p book rows old counts n before now put
  pub follows : (counter : ℕ) (t : FlatTable) → IsSound p t → HasJustStashRows t rows → IsTableOf p (arrays_of old (rest_of book counter)) t → IsTableOf p (arrays_of mid (rest_of book counter)) (passed_table p t (take n (row_keys rows)))

-- a key is written at a real index of a bucket
abbrev pub with_key_at : Buckets → ℕ → ℕ → ℕ → Buckets
with_key_at s u j k = with_version s u (record (version_at s.versions u) { keys = slice_set (version_at s.versions u).keys j (Some k) })

-- One bucket is sealed anew, with its keys where they lie; the others are as before.
pub record SealsOne (p : Params) (old new : Buckets) (u : ℕ) (words : List ℕ) (seal first : ℕ) : Type 0 where
  pub whole : AreWhole p new
  pub anew : IsSealedAnew (version_at old.versions u) (version_at new.versions u) seal first words
  pub others : (v : ℕ) → (v ≡ u → ⊥) → version_at new.versions v ≡ version_at old.versions v
  pub keys : (v j : ℕ) → key_at (version_at new.versions v) j ≡ key_at (version_at old.versions v) j
  pub unshown : (j : ℕ) → used_at (version_at new.versions u) j ≡ false
  pub lifted : new.lifted ≡ old.lifted
  pub order : new.order ≡ old.order

-- The first n buckets of the list are sealed anew, with their keys where they lie, and their counts are 0.
pub record SealsTo (p : Params) (old new : Buckets) (before now : List ℕ) (words : List ℕ) (first : ℕ × ℕ) (n : ℕ) : Type 0 where
  pub whole : AreWhole p new
  pub anew : AreSealedAnew p old new words first n
  pub keys : (u j : ℕ) → key_at (version_at new.versions u) j ≡ key_at (version_at old.versions u) j
  pub used : (u j : ℕ) → used_at (version_at new.versions u) j ≡ (not (is_one_of (take n old.order) u) && used_at (version_at old.versions u) j)
  pub lifted : new.lifted ≡ old.lifted
  pub order : new.order ≡ old.order
  pub long : length now ≡ length before
  pub cleared : (u : ℕ) → slice_index_or now u 0 ≡ cond (is_one_of (take n old.order) u) 0 (slice_index_or before u 0)
