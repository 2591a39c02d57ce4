-- What a checkpoint keeps, and the rules that it obeys.
use Rattle.std.specs.Prelude.{◌≡◌, ◌≢◌, ◌↔◌, ◌<◌, ◌≤◌, ℕ, ◌^◌, true, List, length, Option, Some, None}
use Rattle.std.specs.Ordering.{nat_cmp}
use Rattle.std.specs.FinMap as finite
use Rattle.ob_base.specs.declared.params.Params.{Params}
use Rattle.ob_base.specs.Tree.{buckets, passes}
use Rattle.ob_tables.specs.Version as bucket
use Rattle.ob_tables.specs.Version.{Version, key_at}
use Rattle.ob_tables.specs.Buckets.{Buckets, version_at}
use Rattle.ob_tables.specs.declared.entry.Entry.{Entry}
use Rattle.ob_tables.specs.declared.tables.Tables.{Tables}
use Rattle.ob_tables.specs.Kept.{entry_at}

-- the rows of the stash, by key
abbrev pub Rows : Type 0
Rows = finite.FinMap nat_cmp (List ℕ)

pub record Content : Type 0 where
  -- how many paths were evicted, modulo the number of leaves
  pub counter : ℕ
  -- of each key its entry, if it is present
  pub book : List (Option Entry)
  -- of each bucket what lies in it
  pub versions : List Version
  -- the rows that lie in no bucket
  pub rows : Rows

-- what a checkpoint keeps of the planner's tables
abbrev pub content_of : Tables Buckets → Content
content_of t = record { counter = t.counter; book = t.book; versions = (t.metas).versions; rows = (t.stash).rows }

-- ---- the rules

-- a present key's numbers are in range
pub record FitsEntry (p : Params) (e : Entry) : Type 0 where
  pub generation : e.generation < 2 ^ 64
  pub index : e.index < 2 ^ 64
  pub leaf : e.leaf < 2 ^ p.levels

pub record FitsBook (p : Params) (book : List (Option Entry)) : Type 0 where
  pub many : length book ≡ p.keys
  pub entries : (k : ℕ) (e : Entry) → entry_at book k ≡ Some e → FitsEntry p e

-- a bucket's seals are in range
pub record FitsSeals (v : Version) : Type 0 where
  pub generation : v.generation < 2 ^ 64
  pub base : v.base < 2 ^ 64

-- no bucket holds the key
abbrev pub IsLoose : List Version → ℕ → Type 0
IsLoose versions k = (u j : ℕ) → key_at (version_at versions u) j ≢ Some k

-- a key that lies in a bucket is present, and its path passes the bucket
pub record IsKeyOf (p : Params) (book : List (Option Entry)) (u k : ℕ) : Type 0 where
  pub entry : Entry
  pub kept : entry_at book k ≡ Some entry
  pub on_path : passes p u entry.leaf ≡ true

pub record Obeys (p : Params) (c : Content) : Type 0 where
  pub counter : c.counter < 2 ^ p.levels
  pub book : FitsBook p c.book
  pub many : length c.versions ≡ buckets p
  pub versions : (u : ℕ) → u < buckets p → bucket.VersionObeys p (version_at c.versions u)
  pub seals : (u : ℕ) → u < buckets p → FitsSeals (version_at c.versions u)
  pub keys : (u j k : ℕ) → key_at (version_at c.versions u) j ≡ Some k → IsKeyOf p c.book u k
  -- no key lies in two places
  pub once : (k u v i j : ℕ) → key_at (version_at c.versions u) i ≡ Some k → key_at (version_at c.versions v) j ≡ Some k → (u ≡ v) × (i ≡ j)
  -- the stash has just the present keys that lie in no bucket, and not too many
  pub stash : (k : ℕ) → (finite.get c.rows k ≢ None) ↔ ((entry_at c.book k ≢ None) × IsLoose c.versions k)
  pub short : (k : ℕ) (value : List ℕ) → finite.get c.rows k ≡ Some value → length value ≤ 64
  pub few : finite.len c.rows ≤ p.room
