-- What batches, final lifts and writes make of the values.
use Rattle.std.specs.Prelude.{◌≡◌, ℕ, ◌<◌, ◌≤◌, ◌||◌, Bool, true, false, List, [], ◌∷◌, length, Option, ⊤}
use Rattle.std.specs.declared.option.Option.TheVariants.{None, Some}
use Rattle.std.specs.FinMap as finite
use Rattle.ob_base.specs.declared.params.Params.{Params}
use Rattle.ob_base.specs.declared.job.Job.{Job}
use Rattle.ob_base.specs.declared.value.Write.{Write}
use Rattle.ob_tables.specs.Content.{Rows}
use Rattle.ob_tables.specs.declared.entry.Entry.{Entry}
use Rattle.ob_schedule.specs.Paths.{eviction_path}
use Rattle.ob_ring.specs.FlatTable.{FlatTable, Batch, FinalLifts, Writes, after, asks_for, stash_size}
use Rattle.ob_ring.specs.Laws.{IsOrderly}
use Rattle.ob_ring.specs.Picked.{batch_picked, final_picked}
use Rattle.ob_ring.specs.Settling.{rows_after, first_fault}
use Rattle.ob_ring.specs.Writing.{leaf_writes, values_after}
use Rattle.ob_stand.specs.Values.{Values, with_entries}
use Rattle.ob_stand.specs.Carries.{Slots, Carries, AreRead}

-- jobs that were read break no rule, and their rows join those of the stash
pub record Settles (p : Params) (t : FlatTable) (rows : Rows) (slots : Slots) (m : Values) (js : List Job) : Type 0 where
  pub fault : first_fault js ≡ None
  pub carries : Carries p t (rows_after rows js) slots m

abbrev pub BatchCarries : Type 0
BatchCarries = (p : Params) (t : FlatTable) (places : List (Option ℕ × ℕ)) (rows : Rows) (slots : Slots) (m : Values) (js : List Job)
    → IsOrderly p t → Carries p t rows slots m → AreRead slots (batch_picked p t places) js → Settles p (after p t (Batch places)) rows slots m js

abbrev pub LiftsCarry : Type 0
LiftsCarry = (p : Params) (t : FlatTable) (rows : Rows) (slots : Slots) (m : Values) (js : List Job)
    → IsOrderly p t → Carries p t rows slots m → AreRead slots (final_picked p t (eviction_path p t.counter)) js → Settles p (after p t FinalLifts) rows slots m js

-- whether a place of the batch asks for the key
abbrev pub is_asked : List (Option ℕ × ℕ) → ℕ → Bool
is_asked [] k = false
is_asked (a ∷ rest) k = asks_for a.0 k || is_asked rest k

-- after a batch the stash has just the map's value of each key that the batch asked for
abbrev pub FetchIsAnswered : Type 0
FetchIsAnswered = (p : Params) (t : FlatTable) (places : List (Option ℕ × ℕ)) (rows : Rows) (slots : Slots) (m : Values) (js : List Job)
    → IsOrderly p t → Carries p t rows slots m → AreRead slots (batch_picked p t places) js → (k : ℕ) → is_asked places k ≡ true → finite.get (rows_after rows js) k ≡ m k

-- keys in range, and values of at most 64 bytes
abbrev pub AreFit : Params → List (Write × Entry) → Type 0
AreFit p [] = ⊤
AreFit p (w ∷ ws) = ((w.0).key < p.keys) × ((value : List ℕ) → (w.0).value ≡ Some value → length value ≤ 64) × AreFit p ws

abbrev pub WritesCarry : Type 0
WritesCarry = (p : Params) (t : FlatTable) (ws : List (Write × Entry)) (rows : Rows) (slots : Slots) (m : Values)
    → AreFit p ws → Carries p t rows slots m → Carries p (after p t (Writes (leaf_writes ws))) (values_after rows ws) slots (with_entries m ws)

-- the stash has as many rows as the table has keys in it
abbrev pub StashCounts : Type 0
StashCounts = (p : Params) (t : FlatTable) (rows : Rows) (slots : Slots) (m : Values) → Carries p t rows slots m → finite.len rows ≡ stash_size p t
