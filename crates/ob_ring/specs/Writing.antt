-- What an epoch's writes change.
use Rattle.std.specs.Prelude.{◌≡◌, ℕ, ◌==◌, cond, List, [], ◌∷◌, map, Option, slice_index_or}
use Rattle.std.specs.declared.option.Option.TheVariants.{None, Some}
use Rattle.std.specs.FinMap as finite
use Rattle.ob_base.specs.declared.params.Params.{Params}
use Rattle.ob_base.specs.declared.value.Write.{Write}
use Rattle.ob_base.specs.Tree.{below}
use Rattle.ob_tables.specs.Buckets.{Buckets}
use Rattle.ob_tables.specs.declared.entry.Entry.{Entry}
use Rattle.ob_tables.specs.Kept.{entry_at}
use Rattle.ob_ring.specs.FlatTable.{FlatTable, after_writes}
use Rattle.ob_ring.specs.Laws.{IsOrderly}
use Rattle.ob_ring.specs.Arrays.{IsTableOf, AreWhole, arrays_of, rest_of}
use Rattle.ob_ring.specs.Picked.{SameSeals}
use Rattle.ob_ring.specs.Settling.{Rows}
use Rattle.ob_ring.specs.Fetching.{IsBook, own_entry}

-- a put's key keeps its place's entry, a del's keeps none
abbrev pub entry_of : Option (List ℕ) → Entry → Option Entry
entry_of None own = None
entry_of (Some value) own = Some own

abbrev pub leaf_of_write : Option (List ℕ) → Entry → Option ℕ
leaf_of_write None own = None
leaf_of_write (Some value) own = Some own.leaf

-- each write with its place's entry, as the flat table sees it
abbrev pub leaf_writes : List (Write × Entry) → List (ℕ × Option ℕ)
leaf_writes ws = map (λ w. ((w.0).key, leaf_of_write (w.0).value w.1)) ws

abbrev pub with_entry : (ℕ → Option Entry) → ℕ → Option Entry → ℕ → Option Entry
with_entry book key entry k = cond (k == key) entry (book k)

abbrev pub entries_after : (ℕ → Option Entry) → List (Write × Entry) → ℕ → Option Entry
entries_after book [] = book
entries_after book (w ∷ ws) = entries_after (with_entry book (w.0).key (entry_of (w.0).value w.1)) ws

-- a put sets the key's row, a del takes it out
abbrev pub with_value : Rows → ℕ → Option (List ℕ) → Rows
with_value rows key None = finite.remove rows key
with_value rows key (Some value) = finite.insert rows key value

abbrev pub values_after : Rows → List (Write × Entry) → Rows
values_after rows [] = rows
values_after rows (w ∷ ws) = values_after (with_value rows (w.0).key (w.0).value) ws

-- The writes are made: the position map, the stash and the buckets are what the flat table's writes give.
pub record Writes (p : Params) (book_old book_new : List (Option Entry)) (old new : Buckets) (rows_old rows_new : Rows) (ws : List (Write × Entry)) : Type 0 where
  pub book : IsBook p book_new
  pub whole : AreWhole p new
  pub seals : SameSeals old new
  pub lifted : new.lifted ≡ old.lifted
  pub entries : (k : ℕ) → entry_at book_new k ≡ entries_after (λ i. entry_at book_old i) ws k
  pub values : rows_new ≡ values_after rows_old ws
  pub follows : (counter : ℕ) (t : FlatTable) → IsOrderly p t → IsTableOf p (arrays_of old (rest_of book_old counter)) t → IsTableOf p (arrays_of new (rest_of book_new counter)) (after_writes t (leaf_writes ws))

-- ---- an epoch's writes

abbrev pub write_at : List Write → ℕ → Write
write_at writes i = slice_index_or writes i (record { key = 0; value = None })

-- the i-th write takes the i-th word
abbrev pub writes_of : Params → List Write → List ℕ → ℕ × ℕ → ℕ → List (Write × Entry)
writes_of p writes words first n = map (λ i. (write_at writes i, own_entry p words first i)) (below n)
