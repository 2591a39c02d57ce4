-- How great the numbers of a store's layout can be.
use Rattle.std.specs.Prelude.{◌<◌, ◌≤◌, ℕ, ◌+◌, ◌*◌, ◌/◌, ◌^◌}
use Rattle.std.proofs.Common.{arith}
use Rattle.std.proofs.Math.Nat.{mul-le-mul_right, mul-le-mul_left, pow-le-pow_right, div-lt_iff_lt-mul}
use Rattle.std.specs.Int.{div_ceil}
use Rattle.ob_base.specs.declared.params.Params.{Params}
use Rattle.ob_base.specs.Tree.{buckets, width}
use Rattle.ob_base.specs.Layout.{record_cells, record_len, checkpoint_len, checkpoint_cells, meta_len, log_cells, home_cells, ring_cells}

-- a product is at most that of its factors' bounds
pub product_le : (a b m n : ℕ) → a ≤ m → b ≤ n → a * b ≤ m * n
product_le a b m n ha hb = let x : a * b ≤ m * b = mul-le-mul_right b ha in let y : m * b ≤ m * n = mul-le-mul_left m hb in omega arith

pub power_le : (l m : ℕ) → l ≤ m → 2 ^ l ≤ 2 ^ m
power_le l m h = pow-le-pow_right (omega arith) h

pub leaves_le : (p : Params) → 2 ^ p.levels ≤ 65536
leaves_le p = power_le p.levels 16 p.in_range.few_levels

pub buckets_le : (p : Params) → buckets p ≤ 131071
unfolding buckets
buckets_le p = let h : 2 ^ (p.levels + 1) ≤ 131072 = power_le (p.levels + 1) 17 (let f : p.levels ≤ 16 = p.in_range.few_levels in omega arith) in omega arith

pub width_le : (p : Params) → width p ≤ 48
width_le p = omega (arith, p.in_range.few_real, p.in_range.few_dummies)

div_ceil_le : (a n m : ℕ) → 0 < n → a < m * n → div_ceil a n ≤ m
div_ceil_le a n m some h = let q : a / n < m = (div-lt_iff_lt-mul some).1 h in omega arith

pub record_cells_le : (p : Params) → record_cells p ≤ 9
unfolding record_cells
record_cells_le p = div_ceil_le (record_len p) 96 9 (omega arith) (omega (arith, p.in_range.few_places))

pub log_cells_le : (p : Params) → log_cells p ≤ 160
unfolding log_cells
log_cells_le p = product_le p.batches (record_cells p + 1) 16 10 p.in_range.few_batches (omega (arith, record_cells_le p))

pub home_cells_le : (p : Params) → home_cells p ≤ 6291408
unfolding home_cells
home_cells_le p = product_le (buckets p) (width p) 131071 48 (buckets_le p) (width_le p)

pub meta_len_le : (p : Params) → meta_len p ≤ 177
meta_len_le p = omega (arith, width_le p, p.in_range.few_real)

pub metas_le : (p : Params) → buckets p * meta_len p ≤ 23199567
metas_le p = product_le (buckets p) (meta_len p) 131071 177 (buckets_le p) (meta_len_le p)

pub checkpoint_len_le : (p : Params) → checkpoint_len p ≤ 24646499
unfolding checkpoint_len
checkpoint_len_le p = omega (arith, metas_le p, p.in_range.few_keys, p.in_range.few_room)

pub checkpoint_cells_le : (p : Params) → checkpoint_cells p ≤ 256735
unfolding checkpoint_cells
checkpoint_cells_le p = div_ceil_le (checkpoint_len p) 96 256735 (omega arith) (omega (arith, checkpoint_len_le p))

pub cells_le : (p : Params) → ring_cells p < 2 ^ 24
cells_le p = omega (arith, log_cells_le p, checkpoint_cells_le p, home_cells_le p)
