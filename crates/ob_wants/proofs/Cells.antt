-- Cells of records, checkpoints and slots, wherever they would lie.
use Rattle.std.proofs.Common.{◌<◌, ◌≤◌, ◌+◌, ◌*◌, ℕ, arith}
use Rattle.ob_base.specs.declared.params.Params.{Params}
use Rattle.ob_base.specs.Tree.{buckets, width}
use Rattle.ob_base.specs.Layout.{record_cells}
use Rattle.ob_base.proofs.Bounds.{product_le, power_le, record_cells_le, width_le}

pub some_buckets : (p : Params) → 0 < buckets p
unfolding buckets
some_buckets p = omega (arith, power_le 1 (p.levels + 1) (omega arith))

pub some_width : (p : Params) → 0 < width p
some_width p = omega (arith, p.in_range.some_real)

pub record_far : (p : Params) (batch : ℕ) → batch < 4294967296 → batch * (record_cells p + 1) ≤ 42949672960
record_far p batch low = product_le batch (record_cells p + 1) 4294967296 10 (omega arith) (omega (arith, record_cells_le p))

pub slot_far : (p : Params) (bucket : ℕ) → bucket < 4294967296 → bucket * width p ≤ 206158430208
slot_far p bucket low = product_le bucket (width p) 4294967296 48 (omega arith) (width_le p)
