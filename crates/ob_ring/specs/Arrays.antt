-- The packed arrays of the planner, and the flat table that they stand for.
use Rattle.std.specs.Prelude.{◌≡◌, ℕ, ◌<◌, ◌↔◌, Bool, List, Option, length}
use Rattle.std.specs.declared.option.Option.TheVariants.{None, Some}
use Rattle.ob_base.specs.declared.params.Params.{Params}
use Rattle.ob_base.specs.Tree.{buckets}
use Rattle.ob_tables.specs.Version.{HasSlots, key_at, used_at}
use Rattle.ob_tables.specs.Buckets.{Buckets, version_at, is_lifted}
use Rattle.ob_tables.specs.declared.entry.Entry.{Entry}
use Rattle.ob_tables.specs.Kept.{entry_at}
use Rattle.ob_ring.specs.FlatTable.{FlatTable, Row, In, spot_of}

-- what is kept, by its places: a bucket's keys and marks, which buckets are lifted, the leaf of a key
pub record Arrays : Type 0 where
  pub key_at : ℕ → ℕ → Option ℕ
  pub used_at : ℕ → ℕ → Bool
  pub lifted_at : ℕ → Bool
  pub leaf_at : ℕ → Option ℕ
  pub counter : ℕ

abbrev pub leaf_in : Option Row → Option ℕ
leaf_in None = None
leaf_in (Some r) = Some r.leaf

-- the arrays stand for the table
pub record IsTableOf (p : Params) (a : Arrays) (t : FlatTable) : Type 0 where
  pub keys_low : (k x : ℕ) → a.leaf_at k ≡ Some x → k < p.keys
  pub leaves_are : (k : ℕ) → leaf_in (t.rows k) ≡ a.leaf_at k
  pub spots_are : (k u j : ℕ) → (spot_of (t.rows k) ≡ In u j) ↔ (a.key_at u j ≡ Some k)
  pub used_is : (u j : ℕ) → t.used u j ≡ a.used_at u j
  pub lifted_is : (u : ℕ) → t.lifted u ≡ a.lifted_at u
  pub counter_is : t.counter ≡ a.counter

-- what stands beside the buckets
pub record Rest : Type 0 where
  pub leaf_at : ℕ → Option ℕ
  pub counter : ℕ

abbrev pub leaf_of_entry : Option Entry → Option ℕ
leaf_of_entry None = None
leaf_of_entry (Some e) = Some e.leaf

abbrev pub rest_of : List (Option Entry) → ℕ → Rest
rest_of book counter = record { leaf_at = λ k. leaf_of_entry (entry_at book k); counter = counter }

abbrev pub arrays_of : Buckets → Rest → Arrays
arrays_of s r = record {
  key_at = λ u j. key_at (version_at s.versions u) j;
  used_at = λ u j. used_at (version_at s.versions u) j;
  lifted_at = λ u. is_lifted s u;
  leaf_at = r.leaf_at;
  counter = r.counter;
}

-- the buckets of these parameters
pub record AreWhole (p : Params) (s : Buckets) : Type 0 where
  pub many : length s.versions ≡ buckets p
  pub marks : length s.lifted ≡ buckets p
  pub slots : (u : ℕ) → u < buckets p → HasSlots p (version_at s.versions u)
