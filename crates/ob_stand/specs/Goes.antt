-- What stays of a bucket while it isn't filled anew.
use Rattle.std.specs.Prelude.{◌≡◌, ◌⊎◌, ℕ, true, false, List, Option}
use Rattle.std.specs.declared.option.Option.TheVariants.{Some}
use Rattle.ob_base.specs.declared.params.Params.{Params}
use Rattle.ob_base.specs.declared.value.Write.{Write}
use Rattle.ob_tables.specs.Version.{Version, key_at, used_at}
use Rattle.ob_tables.specs.Buckets.{Buckets, version_at}
use Rattle.ob_tables.specs.declared.entry.Entry.{Entry}
use Rattle.ob_ring.specs.Arrays.{IsTableOf, Rest, arrays_of}
use Rattle.ob_ring.specs.FlatTable.{FlatTable, In, InStash, Batch, FinalLifts, Writes, Refill, after, spot_of}
use Rattle.ob_ring.specs.Laws.{IsOrderly}
use Rattle.ob_ring.specs.Picked.{SameSeals}
use Rattle.ob_ring.specs.Writing.{leaf_writes}
use Rattle.ob_stand.specs.Takes.{AreKeysLow, KeepsKeys}
use Rattle.ob_stand.specs.Values.{Values, with_entries}

-- The version lies where it lay, as it was sealed. Indexes may have been shown since, and keys may have left.
pub record Goes (m m' : Values) (old new : Version) : Type 0 where
  pub home : new.home ≡ old.home
  pub generation : new.generation ≡ old.generation
  pub base : new.base ≡ old.base
  pub ranks : new.ranks ≡ old.ranks
  -- an index that wasn't shown now wasn't shown then
  pub used : (j : ℕ) → used_at new j ≡ false → used_at old j ≡ false
  -- a key that lies there now lay there then, with the same value
  pub keys : (j k : ℕ) → key_at new j ≡ Some k → key_at old j ≡ Some k
  pub values : (j k : ℕ) → key_at new j ≡ Some k → m' k ≡ m k

-- and further on it goes on from where it lay first
abbrev pub GoesFurther : Type 0
GoesFurther = (m m1 m2 : Values) (v v1 v2 : Version) → Goes m m1 v v1 → Goes m1 m2 v1 v2 → Goes m m2 v v2

-- Of one bucket of the table: no key comes, and no mark goes.
pub record OnlyLeaves (t t' : FlatTable) (u : ℕ) : Type 0 where
  pub keys : (k j : ℕ) → spot_of (t'.rows k) ≡ In u j → spot_of (t.rows k) ≡ In u j
  pub used : (j : ℕ) → t'.used u j ≡ false → t.used u j ≡ false

-- every step leaves a bucket so, but a refill those that were lifted
pub record StepsOnlyTake : Type 0 where
  pub batch : (p : Params) (t : FlatTable) (places : List (Option ℕ × ℕ)) (u : ℕ) → IsOrderly p t → AreKeysLow p t
      → OnlyLeaves t (after p t (Batch places)) u
  pub lifts : (p : Params) (t : FlatTable) (u : ℕ) → IsOrderly p t → AreKeysLow p t → OnlyLeaves t (after p t FinalLifts) u
  pub writes : (p : Params) (t : FlatTable) (ws : List (ℕ × Option ℕ)) (u : ℕ) → OnlyLeaves t (after p t (Writes ws)) u
  pub refill : (p : Params) (t : FlatTable) (u : ℕ) → IsOrderly p t → t.lifted u ≡ false → OnlyLeaves t (after p t Refill) u
  pub further : (t t1 t2 : FlatTable) (u : ℕ) → OnlyLeaves t t1 u → OnlyLeaves t1 t2 u → OnlyLeaves t t2 u
  -- a key that still lies in a bucket after an epoch's writes wasn't written
  pub unwritten : (p : Params) (t : FlatTable) (ws : List (Write × Entry)) (m : Values) (k u j : ℕ)
      → spot_of ((after p t (Writes (leaf_writes ws))).rows k) ≡ In u j → with_entries m ws k ≡ m k

-- so a version of the arrays that stand for the tables goes on
abbrev pub VersionsGo : Type 0
VersionsGo = (p : Params) (old new : Buckets) (before now : Rest) (t t' : FlatTable) (m m' : Values) (u : ℕ) → SameSeals old new
    → IsTableOf p (arrays_of old before) t → IsTableOf p (arrays_of new now) t' → OnlyLeaves t t' u
    → ((k j : ℕ) → spot_of (t'.rows k) ≡ In u j → m' k ≡ m k) → Goes m m' (version_at old.versions u) (version_at new.versions u)

-- ---- a refill

-- No key comes or goes. A key that lies in a bucket after it came from the stash into one that was lifted, or lay there before.
pub record RefillMoves (p : Params) (t : FlatTable) : Type 0 where
  pub keys : KeepsKeys t (after p t Refill)
  pub stash : (k : ℕ) → spot_of ((after p t Refill).rows k) ≡ InStash → spot_of (t.rows k) ≡ InStash
  pub from : (k u j : ℕ) → spot_of ((after p t Refill).rows k) ≡ In u j
      → ((t.lifted u ≡ true) × (spot_of (t.rows k) ≡ InStash)) ⊎ (spot_of (t.rows k) ≡ In u j)

abbrev pub RefillsMove : Type 0
RefillsMove = (p : Params) (t : FlatTable) → RefillMoves p t
