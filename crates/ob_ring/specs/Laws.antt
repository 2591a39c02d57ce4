-- What is true of the flat table at all times, and of what its steps show.
use Rattle.std.specs.Prelude.{◌≡◌, ℕ, ◌+◌, ◌<◌, ◌≤◌, true, false, List, length}
use Rattle.ob_base.specs.declared.params.Params.{Params}
use Rattle.ob_schedule.specs.Paths.{is_one_of}
use Rattle.ob_ring.specs.FlatTable.{FlatTable, Step, picks, after, reads, live, lift_order}
use Rattle.ob_ring.specs.Sound.{IsSound}
use Rattle.ob_ring.specs.News.{Seen, AreNew}

-- Each key lies on its leaf's path or in the stash, at an index that wasn't shown and alone there; and a bucket that isn't lifted was
-- read less often than it has dummies.
pub record IsOrderly (p : Params) (t : FlatTable) : Type 0 where
  pub sound : IsSound p t
  pub few : (u : ℕ) → t.lifted u ≡ false → reads p t u < p.dummies

-- every step keeps that
abbrev pub StepsKeepOrder : Type 0
StepsKeepOrder = (p : Params) (t : FlatTable) (step : Step) → IsOrderly p t → IsOrderly p (after p t step)

-- what was shown of the present versions
abbrev pub seen_in : Params → FlatTable → Seen
seen_in p t = record { shown = t.used; next = reads p t }

-- Each index that a step shows is one of its bucket's, was shown neither before nor earlier in the step, and has its bucket's next
-- number.
abbrev pub ShownOnce : Type 0
ShownOnce = (p : Params) (t : FlatTable) (step : Step) → IsOrderly p t → AreNew p (seen_in p t) (picks p t step)

-- a lift reads as many indexes as there are real ones, each once, none that was shown, and each that holds a key
pub record IsLiftOf (p : Params) (t : FlatTable) (u : ℕ) (js : List ℕ) : Type 0 where
  pub many : length js ≡ p.real
  pub unread : (j : ℕ) → is_one_of js j ≡ true → (j < p.real + p.dummies) × (t.used u j ≡ false)
  pub live_ones : (j : ℕ) → live p t u j ≡ true → is_one_of js j ≡ true

abbrev pub LiftsTakeAll : Type 0
LiftsTakeAll = (p : Params) (t : FlatTable) (u : ℕ) → IsSound p t → reads p t u ≤ p.dummies → IsLiftOf p t u (lift_order p t u)
