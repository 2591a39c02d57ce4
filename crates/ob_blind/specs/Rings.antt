-- Two rings that stand for one table plan alike, whatever else they keep: the slots of their indexes, their homes, their seals, their rows.
use Rattle.std.specs.Prelude.{◌≡◌, ℕ, ◌+◌, ◌%◌, ◌^◌, ◌<◌, ◌≤◌, List, map, MatchResult, Option, Result}
use Rattle.ob_base.specs.declared.fault.StashFull.{StashFull}
use Rattle.ob_base.specs.declared.value.Write.{Write}
use Rattle.ob_base.specs.Planned.{Planned}
use Rattle.ob_tables.specs.declared.entry.Entry.{Entry}
use Rattle.ob_ring.specs.Fetching.{leaf_places}
use Rattle.ob_ring.specs.Filling.{HasJustStashRows}
use Rattle.ob_ring.specs.FlatTable.{FlatTable, Step, Batch, FinalLifts, Writes, Refill, after, picks, stash_size}
use Rattle.ob_ring.specs.Jobs.{place_picked_at, place_shown_at}
use Rattle.ob_ring.specs.Picked.{Picked, job_of}
use Rattle.ob_ring.specs.Ring.{IsBatch, IsLifting, IsListed, Kept, StandsFor}
use Rattle.ob_ring.specs.Writing.{leaf_writes}

-- Both stand for this table, with one set of parameters. Nothing else of the two is compared.
pub record AreOfTable (t : FlatTable) (one other : Kept) : Type 0 where
  pub params : one.p ≡ other.p
  pub one_stands : StandsFor one t
  pub other_stands : StandsFor other t

-- ---- the calls, as far as the law needs their contracts

-- a call of a ring: the ring before it, and behind it
pub record RingCall : Type 0 where
  pub old : Kept
  pub new : Kept

-- `plan_fetch` of these places, with what is planned then
pub record IsFetchPlanned (c : RingCall) (planned : Planned) (asked : List (Option ℕ × Entry)) : Type 0 where
  pub kept : c.new ≡ record c.old { book = (c.new).book; metas = (c.new).metas }
  pub batch : (t : FlatTable) → StandsFor c.old t → IsBatch c.old c.new planned asked t

-- `plan_lifts`
pub record AreLiftsPlanned (c : RingCall) (planned : Planned) : Type 0 where
  pub kept : c.new ≡ record c.old { metas = (c.new).metas; counter = ((c.old).counter + ((c.old).p).evictions) % 2 ^ ((c.old).p).levels }
  pub listed : IsListed c.new
  pub lifting : (t : FlatTable) → StandsFor c.old t → IsLifting c.old c.new planned t

-- `apply_writes` of these writes
pub record AreWritesMade (c : RingCall) (ws : List (Write × Entry)) : Type 0 where
  pub kept : c.new ≡ record c.old { book = (c.new).book; metas = (c.new).metas; stash = (c.new).stash }
  pub written : (t : FlatTable) → StandsFor c.old t → StandsFor c.new (after (c.old).p t (Writes (leaf_writes ws)))

-- `refill_indexed`, which answers this
pub record IsRefillDone (c : RingCall) (answer : Result (Unit {0}) StashFull) : Type 0 where
  pub kept : c.new ≡ record c.old { metas = (c.new).metas }
  pub refilled : (t : FlatTable) → StandsFor c.old t → HasJustStashRows t ((c.old).stash).rows → StandsFor c.new (after (c.old).p t Refill)
  pub rows : (t : FlatTable) → StandsFor c.old t → HasJustStashRows t ((c.old).stash).rows
      → MatchResult answer (λ _. stash_size (c.old).p (after (c.old).p t Refill) ≤ ((c.old).p).room) (λ full. (full.rows ≡ stash_size (c.old).p (after (c.old).p t Refill)) × (((c.old).p).room < full.rows))

-- `settle` and `forget_written`, which change rows alone
abbrev pub ChangesRows : RingCall → Type 0
ChangesRows c = c.new ≡ record c.old { stash = (c.new).stash }

-- ---- the law

-- Both plan the jobs of one list of picked indexes, those that the table shows in this step, in its order: a job's cell, and the number that
-- its slot is sealed with, are of the ring's own versions, and which index it is isn't. Behind it both stand for one table.
pub record ArePickedAlike (t : FlatTable) (step : Step) (one other : RingCall) (planned likewise : Planned) : Type 0 where
  pub picked : List Picked
  pub shown : map place_picked_at picked ≡ map place_shown_at (picks (one.old).p t step)
  pub jobs : planned.jobs ≡ map (job_of (one.old).p ((one.old).metas).versions) picked
  pub other_jobs : likewise.jobs ≡ map (job_of (other.old).p ((other.old).metas).versions) picked
  pub behind : AreOfTable (after (one.old).p t step) one.new other.new

pub record RingsPickAlike : Type 0 where
  -- batches of equal asks and leaves, whose places then show equal leaves
  pub fetches : (t : FlatTable) (one other : RingCall) (planned likewise : Planned) (asked others : List (Option ℕ × Entry)) → AreOfTable t one.old other.old → leaf_places asked ≡ leaf_places others
      → IsFetchPlanned one planned asked → IsFetchPlanned other likewise others → ArePickedAlike t (Batch (leaf_places asked)) one other planned likewise × (planned.places ≡ likewise.places)
  -- final lifts, behind which both list the same buckets to be filled anew, in one order
  pub lifts : (t : FlatTable) (one other : RingCall) (planned likewise : Planned) → AreOfTable t one.old other.old → AreLiftsPlanned one planned → AreLiftsPlanned other likewise
      → ArePickedAlike t FinalLifts one other planned likewise × (((one.new).metas).order ≡ ((other.new).metas).order)
  -- writes of equal keys, put with equal leaves or deleted, whatever their values are
  pub writes : (t : FlatTable) (one other : RingCall) (ws others : List (Write × Entry)) → AreOfTable t one.old other.old → leaf_writes ws ≡ leaf_writes others → AreWritesMade one ws → AreWritesMade other others
      → AreOfTable (after (one.old).p t (Writes (leaf_writes ws))) one.new other.new
  -- refills, where the stash of each has the rows of just the keys that lie in no bucket: both answer the same
  pub refills : (t : FlatTable) (one other : RingCall) (answer reply : Result (Unit {0}) StashFull) → AreOfTable t one.old other.old → HasJustStashRows t ((one.old).stash).rows → HasJustStashRows t ((other.old).stash).rows
      → IsRefillDone one answer → IsRefillDone other reply → AreOfTable (after (one.old).p t Refill) one.new other.new × (answer ≡ reply)
  -- and what changes rows alone leaves them with that table
  pub rows : (t : FlatTable) (one other : RingCall) → AreOfTable t one.old other.old → ChangesRows one → ChangesRows other → AreOfTable t one.new other.new
