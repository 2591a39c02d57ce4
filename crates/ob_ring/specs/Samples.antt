-- A store of eight keys, with seven buckets of two real indexes. All keys lie in the stash with leaf 0, whose path is buckets 3, 1 and 0.
use Rattle.std.specs.Prelude.{◌≡◌, ℕ, ◌==◌, ◌||◌, Bool, true, false, List, [], ◌∷◌, map, replicate, Option}
use Rattle.std.specs.declared.option.Option.TheVariants.{None, Some}
use Rattle.ob_base.specs.Parameters.{AreInRange}
use Rattle.ob_base.specs.declared.params.Params.{Params}
use Rattle.ob_base.specs.Tree.{below, path}
use Rattle.ob_ring.specs.FlatTable.{FlatTable, Spot, InStash, In, spot_of, fills, refill_order}
use Rattle.ob_ring.specs.Passing.{taken_by, none_taken, place_in_pass, steps_among}

abbrev pub small : AreInRange 8 2 2 3 2 2 2 2 8 → Params
small h = record { keys = 8; levels = 2; real = 2; dummies = 3; batches = 2; places = 2; writes = 2; evictions = 2; room = 8; in_range = h }

abbrev pub at_leaf_zero : (ℕ → Bool) → FlatTable
at_leaf_zero lifted = record { rows = λ k. Some (record { leaf = 0; spot = InStash }); used = λ u j. false; lifted = lifted; counter = 0 }

abbrev pub all_lifted : ℕ → Bool
all_lifted u = true

-- all but the middle one of the path
abbrev pub ends_lifted : ℕ → Bool
ends_lifted u = (u == 0) || (u == 3)

-- the leaf's bucket alone
abbrev pub leaf_lifted : ℕ → Bool
leaf_lifted u = u == 3

abbrev pub none_lifted : ℕ → Bool
none_lifted u = false

-- where the pass puts the keys
abbrev pub given_places : Params → (ℕ → Bool) → List (Option (ℕ × ℕ))
given_places p lifted = map (place_in_pass p (at_leaf_zero lifted)) (below 8)

-- where the refill, bucket by bucket, leaves the keys
abbrev pub refilled_spots : Params → (ℕ → Bool) → List Spot
refilled_spots p lifted = map (λ k. spot_of ((fills p (at_leaf_zero lifted) (refill_order p (at_leaf_zero lifted))).rows k)) (below 8)

abbrev pub steps : Params → (ℕ → Bool) → ℕ
steps p lifted = steps_among p (at_leaf_zero lifted) none_taken (below 8)

pub record Sampled : Type 0 where
  pub in_range : AreInRange 8 2 2 3 2 2 2 2 8
  pub path_is : path (small in_range) 0 ≡ 0 ∷ 1 ∷ 3 ∷ []
  -- two keys go into each bucket of the path, the least ones deepest, and two stay
  pub all_places : given_places (small in_range) all_lifted ≡ Some (3, 0) ∷ Some (3, 1) ∷ Some (1, 0) ∷ Some (1, 1) ∷ Some (0, 0) ∷ Some (0, 1) ∷ None ∷ None ∷ []
  pub all_refilled : refilled_spots (small in_range) all_lifted ≡ In 3 0 ∷ In 3 1 ∷ In 1 0 ∷ In 1 1 ∷ In 0 0 ∷ In 0 1 ∷ InStash ∷ InStash ∷ []
  pub all_taken : map (taken_by (small in_range) (at_leaf_zero all_lifted) none_taken (below 8)) (below 7) ≡ 2 ∷ 2 ∷ 0 ∷ 2 ∷ 0 ∷ 0 ∷ 0 ∷ []
  -- 2, 2, 3, 3, 4, 4, 3 and 3, where eight rows may take 32
  pub all_steps : steps (small in_range) all_lifted ≡ 24
  -- a bucket that isn't lifted is passed over
  pub ends_places : given_places (small in_range) ends_lifted ≡ Some (3, 0) ∷ Some (3, 1) ∷ Some (0, 0) ∷ Some (0, 1) ∷ None ∷ None ∷ None ∷ None ∷ []
  pub ends_refilled : refilled_spots (small in_range) ends_lifted ≡ In 3 0 ∷ In 3 1 ∷ In 0 0 ∷ In 0 1 ∷ InStash ∷ InStash ∷ InStash ∷ InStash ∷ []
  -- the leaf's bucket takes two, and the others stay
  pub leaf_places : given_places (small in_range) leaf_lifted ≡ Some (3, 0) ∷ Some (3, 1) ∷ replicate 6 None
  pub leaf_refilled : refilled_spots (small in_range) leaf_lifted ≡ In 3 0 ∷ In 3 1 ∷ replicate 6 InStash
  -- 2, 2, and six times 3
  pub leaf_steps : steps (small in_range) leaf_lifted ≡ 22
  -- where none is lifted all stay, and each asks the three buckets of its path
  pub none_places : given_places (small in_range) none_lifted ≡ replicate 8 None
  pub none_refilled : refilled_spots (small in_range) none_lifted ≡ replicate 8 InStash
  pub none_steps : steps_among (small in_range) (at_leaf_zero none_lifted) none_taken (0 ∷ []) ≡ 3
