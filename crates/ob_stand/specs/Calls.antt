-- What the planner's calls give of an epoch, by the clauses of each call.
use Rattle.std.specs.Prelude.{◌≡◌, ℕ, ◌+◌, ◌%◌, ◌^◌, ◌<◌, ◌≤◌, true, false, List, [], ◌∷◌, ◌++◌, length, Option}
use Rattle.std.specs.declared.option.Option.TheVariants.{Some}
use Rattle.ob_base.specs.declared.params.Params.{Params}
use Rattle.ob_base.specs.declared.job.Job.{Job}
use Rattle.ob_base.specs.declared.value.Write.{Write}
use Rattle.ob_base.specs.Layout.{slot_cell}
use Rattle.ob_base.specs.Planned.{Planned}
use Rattle.ob_base.specs.Tree.{buckets, width}
use Rattle.ob_tables.specs.Buckets.{Buckets, version_at}
use Rattle.ob_tables.specs.declared.entry.Entry.{Entry}
use Rattle.ob_schedule.specs.Paths.{eviction_path, is_one_of}
use Rattle.ob_ring.specs.Fetching.{leaf_places}
use Rattle.ob_ring.specs.Filling.{AreSealedAnew}
use Rattle.ob_ring.specs.FlatTable.{FlatTable, Refill, after, refill_order}
use Rattle.ob_ring.specs.Picked.{SameSeals, batch_picked, final_picked}
use Rattle.ob_ring.specs.Plain.{plain_for, key_of_index, index_with, without_buckets}
use Rattle.ob_ring.specs.Ring.{IsBatch, IsLifting, IsListed, IsRing, Kept, StandsFor}
use Rattle.ob_ring.specs.Writing.{write_at, writes_of}
use Rattle.ob_stand.specs.Carries.{AreRead}
use Rattle.ob_stand.specs.Epochs.{AreAllRead, Read, after_batches}
use Rattle.ob_stand.specs.ValueLaws.{AreFit}
use Rattle.ob_stand.specs.Refilled.{IsRefilled}
use Rattle.ob_stand.specs.Runs.{AreRun, Plains, slots_of}
use Rattle.ob_stand.specs.Plans.{AreAllWhole}

-- Jobs of a plan that were run have read the slots as they lay at the epoch's beginning, where the versions stayed as they were sealed.
pub record PlansAreRead : Type 0 where
  pub batch : (old new : Kept) (now : Planned) (asked : List (Option ℕ × Entry)) (t : FlatTable) (start : Buckets) (plain : Plains) (js : List Job)
      → SameSeals start old.metas → IsBatch old new now asked t → AreRun plain now.jobs js
      → AreRead (slots_of old.p start.versions plain) (batch_picked old.p t (leaf_places asked)) js
  pub lifts : (old new : Kept) (now : Planned) (t : FlatTable) (start : Buckets) (plain : Plains) (js : List Job)
      → SameSeals start old.metas → IsLifting old new now t → AreRun plain now.jobs js
      → AreRead (slots_of old.p start.versions plain) (final_picked old.p t (eviction_path old.p t.counter)) js
  -- one batch more was read
  pub further : (p : Params) (t : FlatTable) (start : Buckets) (plain : Plains) (bs : List Read) (b : Read)
      → AreAllRead p (slots_of p start.versions plain) t bs
      → AreRead (slots_of p start.versions plain) (batch_picked p (after_batches p t bs) b.0) b.1
      → AreAllRead p (slots_of p start.versions plain) t (bs ++ b ∷ [])

-- The buckets of one call behind another. Calls keep versions as they are sealed, and some make the list anew.
pub record CallsJoin : Type 0 where
  pub seals : (old new : Buckets) → SameSeals old new → SameSeals (record old { order = new.order }) new
  pub further : (a b c : Buckets) → SameSeals (record a { order = b.order }) b → SameSeals (record b { order = c.order }) c → SameSeals (record a { order = c.order }) c
  -- the list that the planner keeps is that of the table's lifted buckets
  pub listed : (r : Kept) (t : FlatTable) → StandsFor r t → IsListed r → (r.metas).order ≡ refill_order r.p t

-- an epoch's writes are in range where each is
abbrev pub WritesAreFit : Type 0
WritesAreFit = (p : Params) (writes : List Write) (words : List ℕ) (first : ℕ × ℕ)
    → ((i : ℕ) → i < length writes → (write_at writes i).key < p.keys)
    → ((i : ℕ) (value : List ℕ) → i < length writes → (write_at writes i).value ≡ Some value → length value ≤ 64)
    → AreFit p (writes_of p writes words first (length writes))

-- ---- a refill

-- The cells after the buckets were written: each slot of a listed bucket has what the planner gives for it, and the slots of the
-- others have what they had.
pub record AreSlotsWritten (new : Kept) (plain plain' : Plains) : Type 0 where
  pub anew : (u s : ℕ) → is_one_of (new.metas).order u ≡ true → s < width new.p
      → plain' (slot_cell new.p (version_at (new.metas).versions u).home u s) (version_at (new.metas).versions u).generation (((version_at (new.metas).versions u).base + s) % 2 ^ 64)
      ≡ plain_for (new.stash).rows (key_of_index (version_at (new.metas).versions u) (index_with (version_at (new.metas).versions u) s))
  pub same : (u s : ℕ) → is_one_of (new.metas).order u ≡ false → u < buckets new.p → s < width new.p
      → plain' (slot_cell new.p (version_at (new.metas).versions u).home u s) (version_at (new.metas).versions u).generation (((version_at (new.metas).versions u).base + s) % 2 ^ 64)
      ≡ plain (slot_cell new.p (version_at (new.metas).versions u).home u s) (version_at (new.metas).versions u).generation (((version_at (new.metas).versions u).base + s) % 2 ^ 64)

-- what the planner's refill says of the ring before and after it
pub record RefillsRing (old new : Kept) (words : List ℕ) (first : ℕ × ℕ) (t : FlatTable) : Type 0 where
  pub kept : new ≡ record old { metas = new.metas }
  pub rules : IsRing old
  pub rules_then : IsRing new
  pub whole : AreAllWhole old.p old.metas
  pub listed : IsListed old
  pub order : (new.metas).order ≡ (old.metas).order
  pub anew : AreSealedAnew old.p old.metas new.metas words first (length (old.metas).order)
  pub before : StandsFor old t
  pub refilled : StandsFor new (after old.p t Refill)

-- so the rows lie where the table says, and the written ones have left the stash
abbrev pub RingsRefill : Type 0
RingsRefill = (old new : Kept) (words : List ℕ) (first : ℕ × ℕ) (t : FlatTable) (plain plain' : Plains)
    → RefillsRing old new words first t → AreSlotsWritten new plain plain'
    → IsRefilled t (after old.p t Refill) (old.stash).rows (without_buckets (new.stash).rows (new.metas).versions (new.metas).order) (slots_of old.p (old.metas).versions plain) (slots_of old.p (new.metas).versions plain')
