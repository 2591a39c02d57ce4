-- What a ring keeps, and the flat table that it stands for.
use Rattle.std.specs.Prelude.{◌≡◌, ◌≢◌, ℕ, ◌+◌, ◌^◌, ◌<◌, ◌≤◌, List, map, filter, length, Option, false, slice_index}
use Rattle.std.specs.declared.option.Option.TheVariants.{None}
use Rattle.std.specs.FinMap as finite
use Rattle.ob_base.specs.declared.params.Params.{Params}
use Rattle.ob_base.specs.Tree.{buckets}
use Rattle.ob_base.specs.Planned.{Planned}
use Rattle.ob_tables.specs.Buckets.{Buckets, is_lifted}
use Rattle.ob_tables.specs.declared.entry.Entry.{Entry}
use Rattle.ob_tables.specs.Kept.{Held}
use Rattle.ob_ring.specs.FlatTable.{FlatTable, Batch, FinalLifts, after}
use Rattle.ob_ring.specs.Laws.{IsOrderly}
use Rattle.ob_schedule.specs.Paths.{eviction_path, by_falling_level}
use Rattle.ob_ring.specs.Arrays.{IsTableOf, AreWhole, arrays_of, rest_of}
use Rattle.ob_ring.specs.Picked.{job_of, batch_picked, final_picked, places_from}
use Rattle.ob_ring.specs.Fetching.{IsBook, leaf_places}

-- the parameters, the position map, what is kept of the buckets, the stash, and how many paths were evicted
pub record Kept : Type 0 where
  pub p : Params
  pub book : List (Option Entry)
  pub metas : Buckets
  pub stash : Held
  pub counter : ℕ

-- what each ring obeys at all times
pub record IsRing (r : Kept) : Type 0 where
  pub book : IsBook r.p r.book
  pub metas : AreWhole r.p r.metas
  pub counter : r.counter < 2 ^ (r.p).levels
  pub stash_low : (k : ℕ) → finite.get (r.stash).rows k ≢ None → k < (r.p).keys
  pub room : (r.p).keys ≤ (r.stash).room

-- the ring stands for the table
pub record StandsFor (r : Kept) (t : FlatTable) : Type 0 where
  pub orderly : IsOrderly r.p t
  pub arrays : IsTableOf r.p (arrays_of r.metas (rest_of r.book r.counter)) t

-- no key is present, nothing was shown, no bucket is lifted
abbrev pub empty_table : FlatTable
empty_table = record { rows = λ k. None; used = λ u j. false; lifted = λ u. false; counter = 0 }

-- the jobs of a read batch are those of the indexes that the flat table shows, its places are the table's, and the ring stands for the
-- table after the batch
pub record IsBatch (old new : Kept) (now : Planned) (asked : List (Option ℕ × Entry)) (t : FlatTable) : Type 0 where
  pub table : StandsFor new (after old.p t (Batch (leaf_places asked)))
  pub jobs : now.jobs ≡ map (job_of old.p (old.metas).versions) (batch_picked old.p t (leaf_places asked))
  pub places : now.places ≡ places_from old.p 0 t (leaf_places asked)

-- the jobs of the final lifts are those of the indexes that the flat table shows
pub record IsLifting (old new : Kept) (now : Planned) (t : FlatTable) : Type 0 where
  pub table : StandsFor new (after old.p t FinalLifts)
  pub jobs : now.jobs ≡ map (job_of old.p (old.metas).versions) (final_picked old.p t (eviction_path old.p t.counter))

-- the list has the lifted buckets, by falling level, then rising number
abbrev pub IsListed : Kept → Type 0
IsListed r = (r.metas).order ≡ filter (λ u. is_lifted r.metas u) (by_falling_level ((r.p).levels + 1))

-- each bucket of the list is one of the tree
abbrev pub AreListedWithin : Kept → Type 0
AreListedWithin r = (i : ℕ) → i < length (r.metas).order → slice_index (r.metas).order i < buckets r.p
