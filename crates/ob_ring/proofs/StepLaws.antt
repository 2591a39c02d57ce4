-- The steps of a pass.
use Rattle.std.specs.Prelude.{◌≡◌, ℕ, ◌+◌, ◌*◌, ◌≤◌, Bool, true, false, cond, List, [], ◌∷◌, length, Option}
use Rattle.std.specs.declared.option.Option.TheVariants.{None, Some}
use Rattle.std.proofs.Common.{zero, suc, arith, refl, ap}
use Rattle.ob_base.specs.declared.params.Params.{Params}
use Rattle.ob_ring.specs.FlatTable.{FlatTable, Row}
use Rattle.ob_ring.specs.Passing.{upwards, has_room, goes_to, one_more, asking_steps, row_steps, steps_among}

pub asking_few : (q : ℕ → Bool) (us : List ℕ) → asking_steps q us ≤ length us + 1
asking_few q [] = omega arith
asking_few q (u ∷ us) = by (q u) (asking_few q us)
  where
    by : (b : Bool) → asking_steps q us ≤ length us + 1 → cond b 2 (1 + asking_steps q us) ≤ suc (length us) + 1
    by true h = omega arith
    by false h = omega arith

pub path_length : (p : Params) (leaf n : ℕ) → length (upwards p leaf n) ≡ n
path_length p leaf zero = refl
path_length p leaf (suc n) = ap suc (path_length p leaf n)

row_few : (p : Params) (lifted : ℕ → Bool) (taken : ℕ → ℕ) (o : Option Row) → row_steps p lifted taken o ≤ p.levels + 2
row_few p lifted taken None = omega arith
row_few p lifted taken (Some r) = omega (arith, asking_few (has_room p lifted taken) (upwards p r.leaf (p.levels + 1)), path_length p r.leaf (p.levels + 1))

-- At most a step for each level and one more, for each row.
pub steps_few : (p : Params) (t : FlatTable) (taken : ℕ → ℕ) (ks : List ℕ) → steps_among p t taken ks ≤ length ks * (p.levels + 2)
steps_few p t taken [] = omega arith
steps_few p t taken (k ∷ ks) = add_le (row_steps p t.lifted taken (t.rows k)) (steps_among p t (one_more (goes_to p t.lifted taken (t.rows k)) taken) ks) (length ks) (p.levels + 2)
    (row_few p t.lifted taken (t.rows k)) (steps_few p t (one_more (goes_to p t.lifted taken (t.rows k)) taken) ks)
  where
    add_le : (a b n m : ℕ) → a ≤ m → b ≤ n * m → a + b ≤ suc n * m
    add_le a b n m h g = let more : suc n * m ≡ n * m + m = omega arith in omega (arith, more)
