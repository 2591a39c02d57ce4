-- Where the parts of a checkpoint lie.
use Rattle.std.specs.Prelude.{◌≡◌, ◌<◌, ◌≤◌, ℕ, ◌+◌, ◌*◌, ◌^◌}
use Rattle.std.proofs.Common.{arith, refl, sym, ap, ◌∙◌}
use Rattle.std.proofs.Math.Nat.{mul-le-mul_right}
use Rattle.ob_base.specs.declared.params.Params.{Params}
use Rattle.ob_base.specs.Layout.{checkpoint_len, checkpoint_cells, meta_len}
use Rattle.ob_base.specs.Tree.{buckets}
use Rattle.ob_base.proofs.Bounds.{checkpoint_len_le}
use Rattle.ob_check.specs.Fields.{bucket_place, count_place}

pub count_end : (p : Params) → count_place p + 4 + 69 * p.room ≡ checkpoint_len p
unfolding bucket_place checkpoint_len
count_end p = omega arith

pub bucket_is : (p : Params) (u : ℕ) → bucket_place p u ≡ 16 + 21 * p.keys + u * meta_len p
unfolding bucket_place
bucket_is p u = refl

pub bucket_end : (p : Params) (u : ℕ) → u < buckets p → bucket_place p u + meta_len p ≤ count_place p
unfolding bucket_place
bucket_end p u lt =
    let more : (u + 1) * meta_len p ≤ buckets p * meta_len p = mul-le-mul_right (meta_len p) (let h : u + 1 ≤ buckets p = omega arith in h) in
    let split : (u + 1) * meta_len p ≡ u * meta_len p + meta_len p = distributed u (meta_len p) in
    omega arith
  where
    distributed : (m n : ℕ) → (m + 1) * n ≡ m * n + n
    distributed m n = grind arith

pub bucket_within : (p : Params) (u : ℕ) → u < buckets p → bucket_place p u + meta_len p ≤ checkpoint_len p
bucket_within p u lt = let e : bucket_place p u + meta_len p ≤ count_place p = bucket_end p u lt in let c : count_place p + 4 + 69 * p.room ≡ checkpoint_len p = count_end p in omega arith

pub numbers_within : (p : Params) → 16 ≤ checkpoint_len p
unfolding checkpoint_len
numbers_within p = omega arith

pub place_within : (p : Params) (u place : ℕ) → place ≡ 16 + 21 * p.keys + u * meta_len p → u < buckets p → place + meta_len p ≤ checkpoint_len p
place_within p u place is lt = let e : place ≡ bucket_place p u = is ∙ sym (bucket_is p u) in let w : bucket_place p u + meta_len p ≤ checkpoint_len p = bucket_within p u lt in omega arith

pub count_from : (p : Params) (b m : ℕ) → b ≡ buckets p → m ≡ meta_len p → 16 + 21 * p.keys + b * m ≡ count_place p
count_from p b m is long = ap (λ n. 16 + 21 * p.keys + n * m) is ∙ ap (λ n. 16 + 21 * p.keys + buckets p * n) long ∙ sym (bucket_is p (buckets p))

pub place_few : (p : Params) (u place : ℕ) → place ≡ 16 + 21 * p.keys + u * meta_len p → u < buckets p → place < 2 ^ 25
place_few p u place is lt = let w : place + meta_len p ≤ checkpoint_len p = place_within p u place is lt in omega (arith, checkpoint_len_le p)

pub count_few : (p : Params) (place : ℕ) → place ≡ count_place p → place < 2 ^ 25
count_few p place is = let c : count_place p + 4 + 69 * p.room ≡ checkpoint_len p = count_end p in omega (arith, checkpoint_len_le p)

-- ---- the cells

pub some_cell : (p : Params) → 0 < checkpoint_cells p
unfolding checkpoint_cells checkpoint_len
some_cell p = omega arith
