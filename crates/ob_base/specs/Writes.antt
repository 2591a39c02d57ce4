-- Writes in definitions' words: a key, and its value or none.
use Rattle.std.specs.Prelude.{ℕ, List, Option, Some, None}
use Rattle.ob_base.specs.declared.op.Op.{Op}
use Rattle.ob_base.specs.declared.op.Op.TheVariants.{Put, Del}
use Rattle.ob_base.specs.declared.value.Write.{Write}

-- a write that the program hands out, as the pair that it is
abbrev pub pair_of : Write → ℕ × Option (List ℕ)
pair_of w = (w.key, w.value)

-- the operation that sets k to this
abbrev pub write_op : ℕ → Option (List ℕ) → Op ℕ
write_op k None = Del k
write_op k (Some v) = Put k v
