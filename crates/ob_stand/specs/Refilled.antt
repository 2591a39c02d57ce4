-- What a refill writes, and what stays.
use Rattle.std.specs.Prelude.{◌≡◌, ◌≢◌, ℕ, ◌<◌, ◌≤◌, true, false, List, [], length}
use Rattle.std.specs.declared.option.Option.TheVariants.{None, Some}
use Rattle.std.specs.FinMap as finite
use Rattle.ob_base.specs.declared.params.Params.{Params}
use Rattle.ob_base.specs.Tree.{buckets}
use Rattle.ob_tables.specs.Version.{EMPTY, IsWhole, rank_at}
use Rattle.ob_tables.specs.Buckets.{Buckets, version_at}
use Rattle.ob_tables.specs.Content.{Rows}
use Rattle.ob_tables.specs.Spelling.{slot_bytes}
use Rattle.ob_ring.specs.Arrays.{AreWhole, IsTableOf, Rest, arrays_of}
use Rattle.ob_ring.specs.FlatTable.{FlatTable, In, Refill, after, spot_of, refill_order}
use Rattle.ob_ring.specs.Laws.{IsOrderly}
use Rattle.ob_ring.specs.Plain.{plain_for, key_of_index, index_with, without_buckets}
use Rattle.ob_stand.specs.Values.{Values}
use Rattle.ob_stand.specs.Carries.{Slots, Carries}

-- The buckets that were lifted get the rows of the keys that lie in them now, which leave the stash; the rows in the others stay.
pub record IsRefilled (t t' : FlatTable) (rows rows' : Rows) (slots slots' : Slots) : Type 0 where
  pub written : (k u j : ℕ) → t.lifted u ≡ true → spot_of (t'.rows k) ≡ In u j → slots' u j ≡ plain_for rows (Some k)
  pub same : (k u j : ℕ) → t.lifted u ≡ false → spot_of (t'.rows k) ≡ In u j → slots' u j ≡ slots u j
  pub gone : (k u j : ℕ) → t.lifted u ≡ true → spot_of (t'.rows k) ≡ In u j → finite.get rows' k ≡ None
  pub kept : (k : ℕ) → ((u j : ℕ) → t.lifted u ≡ true → spot_of (t'.rows k) ≢ In u j) → finite.get rows' k ≡ finite.get rows k

abbrev pub RefillCarries : Type 0
RefillCarries = (p : Params) (t : FlatTable) (rows rows' : Rows) (slots slots' : Slots) (m : Values)
    → IsOrderly p t → Carries p t rows slots m → IsRefilled t (after p t Refill) rows rows' slots slots' → Carries p (after p t Refill) rows' slots' m

-- the bytes that are planned for a slot spell the row of the key that lies there, or none
pub record PlainIsSpelled : Type 0 where
  pub none : (rows : Rows) → plain_for rows None ≡ slot_bytes EMPTY []
  pub some : (rows : Rows) (k : ℕ) (value : List ℕ) → finite.get rows k ≡ Some value → length value ≤ 64 → plain_for rows (Some k) ≡ slot_bytes k value

-- What the planner's refill gives: the planned bytes of each index of a bucket that was lifted, by its version's ranks.
pub record WritesSlots (p : Params) (new : Buckets) (t : FlatTable) (rows : Rows) (slots slots' : Slots) : Type 0 where
  pub anew : (u j : ℕ) → t.lifted u ≡ true → j < length (version_at new.versions u).ranks
      → slots' u j ≡ plain_for rows (key_of_index (version_at new.versions u) (index_with (version_at new.versions u) (rank_at (version_at new.versions u) j)))
  pub same : (u j : ℕ) → t.lifted u ≡ false → j < length (version_at new.versions u).ranks → slots' u j ≡ slots u j

abbrev pub RefillIsWritten : Type 0
RefillIsWritten = (p : Params) (new : Buckets) (rest : Rest) (t : FlatTable) (rows : Rows) (slots slots' : Slots) → IsOrderly p t → AreWhole p new
    → ((u : ℕ) → u < buckets p → IsWhole (version_at new.versions u)) → IsTableOf p (arrays_of new rest) (after p t Refill)
    → new.order ≡ refill_order p t → WritesSlots p new t rows slots slots'
    → IsRefilled t (after p t Refill) rows (without_buckets rows new.versions new.order) slots slots'
