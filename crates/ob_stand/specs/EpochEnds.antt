-- From one checkpoint's content to the next, over an epoch that the planner's calls have run.
use Rattle.std.specs.Prelude.{◌≡◌, ◌⊎◌, ℕ, ◌-◌, ◌<◌, ◌≤◌, ◌^◌, true, List, length, Option, slice_index}
use Rattle.ob_base.specs.declared.params.Params.{Params}
use Rattle.ob_base.specs.declared.job.Job.{Job}
use Rattle.ob_base.specs.declared.value.Write.{Write}
use Rattle.ob_base.specs.Tree.{buckets}
use Rattle.ob_tables.specs.Buckets.{Buckets, version_at}
use Rattle.ob_tables.specs.Content.{Content, Rows, Obeys}
use Rattle.ob_tables.specs.declared.entry.Entry.{Entry}
use Rattle.ob_schedule.specs.Paths.{is_one_of}
use Rattle.ob_ring.specs.Arrays.{AreWhole, IsTableOf, arrays_of, rest_of}
use Rattle.ob_ring.specs.Filling.{AreSealedAnew}
use Rattle.ob_ring.specs.FlatTable.{refill_order, stash_size}
use Rattle.ob_ring.specs.Picked.{SameSeals}
use Rattle.ob_stand.specs.Goes.{Goes}
use Rattle.ob_stand.specs.Values.{Values, with_entries}
use Rattle.ob_stand.specs.Carries.{Slots}
use Rattle.ob_stand.specs.Epochs.{Read, IsEpoch, after_epoch, before_refill}
use Rattle.ob_stand.specs.Numbers.{IsKnown, KnowsBook}
use Rattle.ob_stand.specs.Table.{flat_of}
use Rattle.ob_stand.specs.Valued.{IsValued, content_with}

-- How a run of the planner's calls left its tables: the buckets at the epoch's beginning, before the refill and after it; the words and
-- the first number of the refill, in this generation.
pub record RefillRun : Type 0 where
  pub start : Buckets
  pub before : Buckets
  pub filled : Buckets
  pub words : List ℕ
  pub first : ℕ × ℕ

-- The run began at this content, and its refill left these tables.
pub record IsRunFrom (p : Params) (r : RefillRun) (c : Content) (book : List (Option Entry)) (counter : ℕ) (bs : List Read) (ws : List (Write × Entry)) : Type 0 where
  pub began : (r.start).versions ≡ c.versions
  -- until the refill each version stayed as it was sealed
  pub seals : SameSeals r.start r.before
  pub table_before : IsTableOf p (arrays_of r.before (rest_of book counter)) (before_refill p (flat_of p c) bs ws)
  pub listed : (r.before).order ≡ refill_order p (before_refill p (flat_of p c) bs ws)
  pub anew : AreSealedAnew p r.before r.filled r.words r.first (length (r.before).order)
  pub table : IsTableOf p (arrays_of r.filled (rest_of book counter)) (after_epoch p (flat_of p c) bs ws)
  pub whole_before : AreWhole p r.before
  pub whole : AreWhole p r.filled
  -- an entry of this generation or of an earlier one may be that of a batch that was begun before a crash
  pub entries : KnowsBook p (r.first).0 c.book book
  pub many : length book ≡ p.keys
  pub low : counter < 2 ^ p.levels
  pub room : stash_size p (after_epoch p (flat_of p c) bs ws) ≤ p.room

-- What an end is to write stands for the map, and what it doesn't write goes on: `order` lists the buckets that are filled anew.
pub record IsNext (p : Params) (c c' : Content) (slots' : Slots) (m m' : Values) (g : ℕ) (order : List ℕ) : Type 0 where
  pub obeys : Obeys p c'
  pub valued : IsValued c' slots' m'
  pub known : IsKnown c' g
  pub goes : (u : ℕ) → u < buckets p → (is_one_of order u ≡ true) ⊎ Goes m m' (version_at c.versions u) (version_at c'.versions u)
  -- each bucket of the list is one of the tree, stands there once, and lies in its other home
  pub within : (u : ℕ) → is_one_of order u ≡ true → u < buckets p
  pub apart : (i j : ℕ) → i < length order → j < length order → slice_index order i ≡ slice_index order j → i ≡ j
  pub homes : (u : ℕ) → is_one_of order u ≡ true → (version_at c'.versions u).home ≡ 1 - (version_at c.versions u).home

abbrev pub EndsFollow : Type 0
EndsFollow = (p : Params) (r : RefillRun) (c : Content) (slots slots' : Slots) (m : Values) (bs : List Read) (js : List Job) (ws : List (Write × Entry)) (book : List (Option Entry)) (rows' : Rows) (counter : ℕ)
    → Obeys p c → IsKnown c (r.first).0 → (r.first).0 < 2 ^ 64 → IsValued c slots m
    → IsEpoch p (flat_of p c) c.rows rows' slots slots' bs js ws → IsRunFrom p r c book counter bs ws
    → IsNext p c (content_with r.filled book rows' counter) slots' m (with_entries m ws) (r.first).0 (r.before).order
