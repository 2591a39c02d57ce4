-- The buckets before and after a refill.
use Rattle.std.specs.Prelude.{◌≡◌, ℕ, ◌-◌, ◌<◌, true, false, List, length}
use Rattle.ob_base.specs.declared.params.Params.{Params}
use Rattle.ob_base.specs.Tree.{buckets}
use Rattle.ob_tables.specs.Version.{IsWhole}
use Rattle.ob_tables.specs.Buckets.{Buckets, version_at}
use Rattle.ob_schedule.specs.Paths.{is_one_of}
use Rattle.ob_ring.specs.Arrays.{AreWhole, IsTableOf, Rest, arrays_of}
use Rattle.ob_ring.specs.Filling.{AreSealedAnew}
use Rattle.ob_ring.specs.FlatTable.{FlatTable, Refill, after}
use Rattle.ob_ring.specs.Laws.{IsOrderly}
use Rattle.ob_ring.specs.Picked.{SameSeals}

-- each version of the tree's buckets obeys its own rules
abbrev pub AreAllWhole : Params → Buckets → Type 0
AreAllWhole p s = (u : ℕ) → u < buckets p → IsWhole (version_at s.versions u)

-- after a refill no bucket is lifted; each that was is in its other place
pub record RefillPlans : Type 0 where
  pub none_lifted : (p : Params) (old : Buckets) (rest : Rest) (t : FlatTable) (u : ℕ) → IsOrderly p t → AreWhole p old → IsTableOf p (arrays_of old rest) t
      → (after p t Refill).lifted u ≡ false
  pub homes : (p : Params) (old new : Buckets) (words : List ℕ) (first : ℕ × ℕ) (u : ℕ) → AreSealedAnew p old new words first (length old.order)
      → is_one_of old.order u ≡ true → (version_at new.versions u).home ≡ 1 - (version_at old.versions u).home
  -- and versions stay whole: where only keys and marks change, and where buckets are sealed anew
  pub whole_same : (p : Params) (old new : Buckets) → AreWhole p new → SameSeals old new → AreAllWhole p old → AreAllWhole p new
  pub whole_anew : (p : Params) (old new : Buckets) (words : List ℕ) (first : ℕ × ℕ) → AreWhole p new → AreSealedAnew p old new words first (length old.order)
      → AreAllWhole p old → AreAllWhole p new
