-- Where the values of a table's keys are held.
use Rattle.std.specs.Prelude.{◌≡◌, ℕ, ◌<◌, ◌≤◌, true, List, [], ◌∷◌, length, ⊤}
use Rattle.std.specs.declared.option.Option.TheVariants.{None, Some}
use Rattle.std.specs.FinMap as finite
use Rattle.ob_base.specs.declared.params.Params.{Params}
use Rattle.ob_base.specs.declared.job.Job.{Job}
use Rattle.ob_tables.specs.Content.{Rows}
use Rattle.ob_tables.specs.Spelling.{slot_bytes}
use Rattle.ob_ring.specs.FlatTable.{FlatTable, InStash, In, spot_of}
use Rattle.ob_ring.specs.Picked.{Picked}
use Rattle.ob_stand.specs.Takes.{is_present}
use Rattle.ob_stand.specs.Values.{Values}

-- the plain bytes of each index of each bucket
abbrev pub Slots : Type 0
Slots = ℕ → ℕ → List ℕ

-- A table's keys are the map's, and each one's value lies where the table says: in the stash's rows, or in the slot of its index.
pub record Carries (p : Params) (t : FlatTable) (rows : Rows) (slots : Slots) (m : Values) : Type 0 where
  pub low : (k : ℕ) → is_present (t.rows k) ≡ true → k < p.keys
  pub keys : (k : ℕ) → is_present (t.rows k) ≡ is_present (m k)
  pub short : (k : ℕ) (value : List ℕ) → m k ≡ Some value → length value ≤ 64
  -- the stash has just the map's row of a key that lies there, and none of an absent one
  pub held : (k : ℕ) → spot_of (t.rows k) ≡ InStash → finite.get rows k ≡ m k
  -- and no other row
  pub others : (k u j : ℕ) → spot_of (t.rows k) ≡ In u j → finite.get rows k ≡ None
  pub placed : (k u j : ℕ) (value : List ℕ) → spot_of (t.rows k) ≡ In u j → m k ≡ Some value → slots u j ≡ slot_bytes k value

-- each job is that of its pick, and was read: its result is the slot of its index
abbrev pub AreRead : Slots → List Picked → List Job → Type 0
AreRead slots [] [] = ⊤
AreRead slots (q ∷ qs) (j ∷ js) = (j.key ≡ q.key) × (j.result ≡ Some (slots q.bucket q.index)) × AreRead slots qs js
AreRead slots qs js = ⊥
