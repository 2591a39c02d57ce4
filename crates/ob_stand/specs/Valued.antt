-- A checkpoint's content with the map that it stands for, at an epoch's beginning and end.
use Rattle.std.specs.Prelude.{◌≡◌, ℕ, ◌<◌, ◌≤◌, ◌^◌, false, List, length, Option}
use Rattle.std.specs.declared.option.Option.TheVariants.{None, Some}
use Rattle.std.specs.FinMap as finite
use Rattle.ob_base.specs.declared.params.Params.{Params}
use Rattle.ob_base.specs.declared.job.Job.{Job}
use Rattle.ob_base.specs.declared.value.Write.{Write}
use Rattle.ob_base.specs.Tree.{buckets}
use Rattle.ob_tables.specs.Version.{IsWhole, key_at}
use Rattle.ob_tables.specs.Buckets.{Buckets, version_at}
use Rattle.ob_tables.specs.Content.{Content, Rows, FitsBook, FitsSeals, Obeys}
use Rattle.ob_tables.specs.Spelling.{slot_bytes}
use Rattle.ob_tables.specs.declared.entry.Entry.{Entry}
use Rattle.ob_tables.specs.Kept.{entry_at}
use Rattle.ob_ring.specs.Arrays.{AreWhole, IsTableOf, arrays_of, rest_of}
use Rattle.ob_ring.specs.FlatTable.{FlatTable}
use Rattle.ob_ring.specs.Laws.{IsOrderly}
use Rattle.ob_stand.specs.Values.{Values, with_entries}
use Rattle.ob_stand.specs.Carries.{Slots, Carries}
use Rattle.ob_stand.specs.Epochs.{Read, IsEpoch, after_epoch}
use Rattle.ob_stand.specs.Table.{flat_of}

-- an index that holds a key has that key's row, with the map's value
pub record IsSlotOf (slots : Slots) (m : Values) (u j k : ℕ) : Type 0 where
  pub value : List ℕ
  pub is : m k ≡ Some value
  pub spelled : slots u j ≡ slot_bytes k value
  pub short : length value ≤ 64

-- the map's values are those of the content's stash and of the slots
pub record IsValued (c : Content) (slots : Slots) (m : Values) : Type 0 where
  pub absent : (k : ℕ) → entry_at c.book k ≡ None → m k ≡ None
  pub rows : (k : ℕ) (value : List ℕ) → finite.get c.rows k ≡ Some value → m k ≡ Some value
  pub slots_are : (u j k : ℕ) → key_at (version_at c.versions u) j ≡ Some k → IsSlotOf slots m u j k

-- at an epoch's beginning the content's table carries the map
abbrev pub ContentsCarry : Type 0
ContentsCarry = (p : Params) (c : Content) (slots : Slots) (m : Values) → Obeys p c → IsValued c slots m → Carries p (flat_of p c) c.rows slots m

-- ---- an end's tables

abbrev pub content_with : Buckets → List (Option Entry) → Rows → ℕ → Content
content_with s book rows counter = record { counter = counter; book = book; versions = s.versions; rows = rows }

-- the tables are those of the parameters with numbers in range, no bucket is lifted, and the stash isn't too full
pub record AreTablesFilled (p : Params) (s : Buckets) (book : List (Option Entry)) (rows : Rows) (counter : ℕ) (t : FlatTable) : Type 0 where
  pub book_fits : FitsBook p book
  pub whole : AreWhole p s
  pub versions : (u : ℕ) → u < buckets p → IsWhole (version_at s.versions u)
  pub seals : (u : ℕ) → u < buckets p → FitsSeals (version_at s.versions u)
  pub low : counter < 2 ^ p.levels
  pub standing : (u : ℕ) → t.lifted u ≡ false
  pub few : finite.len rows ≤ p.room

-- at an end the tables obey again, and hold the map's values
pub record IsEnd (p : Params) (c : Content) (slots : Slots) (m : Values) : Type 0 where
  pub obeys : Obeys p c
  pub valued : IsValued c slots m

abbrev pub TablesObey : Type 0
TablesObey = (p : Params) (s : Buckets) (book : List (Option Entry)) (rows : Rows) (counter : ℕ) (t : FlatTable) (slots : Slots) (m : Values)
    → IsOrderly p t → IsTableOf p (arrays_of s (rest_of book counter)) t → Carries p t rows slots m → AreTablesFilled p s book rows counter t
    → IsEnd p (content_with s book rows counter) slots m

-- From content that obeys, and a map: the tables after an epoch are again content that obeys, with the map's values after the epoch's
-- writes.
abbrev pub ContentsFollow : Type 0
ContentsFollow = (p : Params) (c : Content) (slots slots' : Slots) (m : Values) (bs : List Read) (js : List Job) (ws : List (Write × Entry)) (s : Buckets) (book : List (Option Entry)) (rows' : Rows) (counter : ℕ)
    → Obeys p c → IsValued c slots m → IsEpoch p (flat_of p c) c.rows rows' slots slots' bs js ws
    → IsTableOf p (arrays_of s (rest_of book counter)) (after_epoch p (flat_of p c) bs ws)
    → AreTablesFilled p s book rows' counter (after_epoch p (flat_of p c) bs ws)
    → IsEnd p (content_with s book rows' counter) slots' (with_entries m ws)
