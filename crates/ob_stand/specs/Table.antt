-- The flat table of a checkpoint's content.
use Rattle.std.specs.Prelude.{◌≡◌, ℕ, false, List, [], replicate, Option}
use Rattle.std.specs.declared.option.Option.TheVariants.{None, Some}
use Rattle.std.specs.List.{find}
use Rattle.ob_base.specs.declared.params.Params.{Params}
use Rattle.ob_base.specs.Tree.{buckets, below}
use Rattle.ob_tables.specs.Version.{Version, used_at, live_index}
use Rattle.ob_tables.specs.Buckets.{Buckets, version_at, is_lifted}
use Rattle.ob_tables.specs.Content.{Content, Obeys, content_of}
use Rattle.ob_tables.specs.declared.entry.Entry.{Entry}
use Rattle.ob_tables.specs.declared.tables.Tables.{Tables}
use Rattle.ob_tables.specs.Kept.{entry_at}
use Rattle.ob_ring.specs.Arrays.{IsTableOf, arrays_of, rest_of}
use Rattle.ob_ring.specs.FlatTable.{FlatTable, Row, Spot, InStash, In}
use Rattle.ob_ring.specs.Laws.{IsOrderly}
use Rattle.ob_ring.specs.Ring.{Kept, StandsFor}
use Rattle.ob_stand.specs.Takes.{is_present}

-- the buckets as an opening reads them: none is lifted, none is listed
abbrev pub buckets_of : Params → Content → Buckets
buckets_of p c = record { versions = c.versions; lifted = replicate (buckets p) false; order = [] }

-- ---- the table

abbrev pub spot_in : ℕ → Option ℕ → Spot
spot_in u None = InStash
spot_in u (Some j) = In u j

abbrev pub spot_among : List Version → ℕ → Option ℕ → Spot
spot_among versions k None = InStash
spot_among versions k (Some u) = spot_in u (live_index (version_at versions u) k)

-- where a key lies: in the first bucket that holds it, else in the stash
abbrev pub lying_place : Params → List Version → ℕ → Spot
lying_place p versions k = spot_among versions k (find (λ u. is_present (live_index (version_at versions u) k)) (below (buckets p)))

abbrev pub row_for : Option Entry → Spot → Option Row
row_for None spot = None
row_for (Some e) spot = Some (record { leaf = e.leaf; spot = spot })

abbrev pub flat_of : Params → Content → FlatTable
flat_of p c = record {
  rows = λ k. row_for (entry_at c.book k) (lying_place p c.versions k);
  used = λ u j. used_at (version_at c.versions u) j;
  lifted = λ u. false;
  counter = c.counter;
}

-- content that obeys stands for an orderly table, that of the arrays that an opening makes of it
pub record IsTableOfContent (p : Params) (c : Content) : Type 0 where
  pub orderly : IsOrderly p (flat_of p c)
  pub arrays : IsTableOf p (arrays_of (buckets_of p c) (rest_of c.book c.counter)) (flat_of p c)

abbrev pub TablesAreRead : Type 0
TablesAreRead = (p : Params) (c : Content) → Obeys p c → IsTableOfContent p c

-- ---- the ring of these tables

abbrev pub ring_of : Params → Tables Buckets → Kept
ring_of p tables = record { p = p; book = tables.book; metas = tables.metas; stash = tables.stash; counter = tables.counter }

-- a ring that is made of tables whose content obeys, with no bucket lifted, stands for the content's table
abbrev pub RingsStand : Type 0
RingsStand = (p : Params) (tables : Tables Buckets) → Obeys p (content_of tables) → ((u : ℕ) → is_lifted tables.metas u ≡ false)
    → StandsFor (ring_of p tables) (flat_of p (content_of tables))
