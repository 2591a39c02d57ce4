-- Which slots are read, as counts: a bucket shows one slot each time that a path passes it, until its version was read as often as
-- there are dummies; then it is read out.
use Rattle.std.specs.Prelude.{ℕ, ◌+◌, ◌==◌, nat_lt, cond, not, List, [], ◌∷◌, map, take, length, filter, slice_index}
use Rattle.std.specs.List.{range_with_len, count_by, flat_map}
use Rattle.ob_base.specs.declared.params.Params.{Params}
use Rattle.ob_base.specs.Tree.{below, path, passes}
use Rattle.ob_schedule.specs.Paths.{eviction_path}

-- a slot hole of an epoch: a bucket, and the number of the read in the bucket's present version
pub record Hole : Type 0 where
  pub bucket : ℕ
  pub number : ℕ

abbrev pub lift_holes : Params → ℕ → ℕ → List Hole
lift_holes p u n = map (λ i. record { bucket = u; number = i }) (range_with_len n p.real)

-- a bucket that a path passes after n reads of its version: one read below the limit, and Z more after the last
abbrev pub visit_holes : Params → ℕ → ℕ → List Hole
visit_holes p u n = cond (nat_lt n p.dummies) (record { bucket = u; number = n } ∷ cond (n + 1 == p.dummies) (lift_holes p u (n + 1)) []) []

abbrev pub place_holes : Params → (ℕ → ℕ) → ℕ → List Hole
place_holes p count leaf = flat_map (λ u. visit_holes p u (count u)) (path p leaf)

-- how many of the first i places pass a bucket
abbrev pub passes_before : Params → List ℕ → ℕ → ℕ → ℕ
passes_before p leaves i u = count_by (passes p u) (take i leaves)

-- the holes of a batch, from the counts before it and the leaves shown
abbrev pub batch_holes : Params → (ℕ → ℕ) → List ℕ → List Hole
batch_holes p count leaves = flat_map (λ i. place_holes p (λ u. count u + passes_before p leaves i u) (slice_index leaves i)) (below (length leaves))

-- each number at its first place
abbrev pub firsts : List ℕ → List ℕ
firsts [] = []
firsts (u ∷ us) = u ∷ filter (λ v. not (v == u)) (firsts us)

-- the final lifts, from the counts after all the batches
abbrev pub final_holes : Params → (ℕ → ℕ) → ℕ → List Hole
final_holes p count counter = flat_map (λ u. cond (nat_lt (count u) p.dummies) (lift_holes p u (count u)) []) (firsts (eviction_path p counter))
