-- How the calls of a vault make a life.
use Rattle.std.specs.Prelude.{◌≡◌, ℕ, ◌<◌, Bool, true, List, [], ◌∷◌, ◌++◌, Option, map, ⊤}
use Rattle.std.specs.declared.option.Option.TheVariants.{None, Some}
use Rattle.std.specs.List.{flat_map}
use Rattle.std.proofs.Common.{zero, suc, ◌⊎◌}
use Rattle.ob_base.specs.declared.params.Params.{Params}
use Rattle.ob_base.specs.Tree.{below}
use Rattle.ob_recover.specs.Life.{WordId, LifeBatch, LifeState, LifeAct, Open, Append, ShowBatch, ShowLifts, End, life_step, reached, IsLife}

-- ---- the acts of a call

-- what an opening finds of an act that was in flight: nothing, or the act
abbrev pub Finds : Option LifeAct → List LifeAct → Type 0
Finds pending found = (found ≡ []) ⊎ ((a : LifeAct) × (pending ≡ Some a) × (found ≡ a ∷ []))

abbrev pub repeated : ℕ → List LifeAct
repeated zero = []
repeated (suc n) = ShowBatch ∷ repeated n

-- the acts of a call, and what is in flight where it refused
pub data LifeCall : Type 0 where
  Opened : (found : List LifeAct) (generation repeats : ℕ) → LifeCall
  Fetched : (r : LifeBatch) → LifeCall
  Ended : (writes : List (ℕ × Option WordId)) (drawn : ℕ) (slot : ℕ → ℕ → ℕ) → LifeCall

abbrev pub acts_of : LifeCall → List LifeAct
acts_of (Opened found g n) = found ++ Open g ∷ repeated n
acts_of (Fetched r) = Append r ∷ ShowBatch ∷ []
acts_of (Ended ws drawn slot) = ShowLifts ∷ End ws drawn slot ∷ []

-- ---- what a call says of itself

module _ (p : Params) (word_of : WordId → ℕ) {Image : Type 0} (stands : LifeState → Image → Type 0) where
  -- each image that may be left stands for the state reached, or for the one after an act that is in flight
  abbrev pub Leaves : LifeState → Option LifeAct → (Image → Type 0) → Type 0
  Leaves s pending may_leave = (i : Image) → may_leave i → stands s i ⊎ ((a : LifeAct) × (pending ≡ Some a) × stands (life_step p word_of s a) i)

  -- a call that answered Ok made all its acts, and nothing is in flight; one that refused made the first ones, and the next may be in flight, or it did nothing and what was in flight still is
  pub record CallLaw (s : LifeState) (before : Option LifeAct) (c : LifeCall) (answered : Bool) (made : List LifeAct) (after : Option LifeAct) (old new : Image → Type 0) : Type 0 where
    pub is_life : IsLife p word_of s made
    pub whole : answered ≡ true → (made ≡ acts_of c) × (after ≡ None)
    pub part : ((made ≡ []) × (after ≡ before)) ⊎ ((rest : List LifeAct) × (acts_of c ≡ made ++ rest) × ((after ≡ None) ⊎ ((a : LifeAct) × (more : List LifeAct) × (after ≡ Some a) × (rest ≡ a ∷ more))))
    pub leaves : Leaves s before old → Leaves (reached p word_of s made) after new

-- ---- pads

pub record RunSeals : Type 0 where
  pub generation : ℕ
  pub sealed : ℕ

abbrev pub pads_of : List RunSeals → List (ℕ × ℕ)
pads_of runs = flat_map (λ r. map (λ n. (r.generation, n)) (below r.sealed)) runs

abbrev pub AreRising : ℕ → List RunSeals → Type 0
AreRising g [] = ⊤
AreRising g (r ∷ rs) = (g < r.generation) × AreRising r.generation rs
