-- What is true of the table at each step.
use Rattle.std.specs.Prelude.{◌≡◌, ℕ, ◌<◌, nat_le, true, false}
use Rattle.ob_base.specs.declared.params.Params.{Params}
use Rattle.ob_base.specs.Tree.{passes}
use Rattle.ob_ring.specs.FlatTable.{FlatTable, In, Shown, spot_of, leaf_of, reads}
use Rattle.ob_schedule.specs.Holes.{Hole}

abbrev pub hole_of : Shown → Hole
hole_of s = record { bucket = s.bucket; number = s.number }

-- what is true of a key that lies in a bucket
pub record Placed (p : Params) (t : FlatTable) (k u j : ℕ) : Type 0 where
  pub real : j < p.real
  pub on_path : passes p u (leaf_of (t.rows k) 0) ≡ true
  pub unread : t.used u j ≡ false
  pub standing : t.lifted u ≡ false

-- each key lies on its leaf's path or in the stash, at an index that wasn't shown, alone there
pub record IsSound (p : Params) (t : FlatTable) : Type 0 where
  pub placed : (k u j : ℕ) → spot_of (t.rows k) ≡ In u j → Placed p t k u j
  pub alone : (k k' u j : ℕ) → spot_of (t.rows k) ≡ In u j → spot_of (t.rows k') ≡ In u j → k ≡ k'

-- during the batches: a bucket is lifted where the counts reach the limit, and else was read as often as they say
pub record IsCounted (p : Params) (t : FlatTable) (count : ℕ → ℕ) : Type 0 where
  pub lifted_is : (u : ℕ) → t.lifted u ≡ nat_le p.dummies (count u)
  pub reads_is : (u : ℕ) → count u < p.dummies → reads p t u ≡ count u
