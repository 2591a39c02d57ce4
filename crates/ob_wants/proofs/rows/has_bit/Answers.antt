use Rattle.std.proofs.Common.{ℕ, ◌==◌, sym, ap, arith}
use Rattle.std.proofs.lemmas.Nat.Bits.{bit_at_above}
use Rattle.ob_wants.proofs.rows.has_bit.Goals as goal

pub returns-else-bit-lt64 : goal.returns-else-bit-lt64
returns-else-bit-lt64 c = sym (ap (λ (n : ℕ). n == 1) (bit_at_above c.args.word 64 c.args.bit (omega arith) (omega arith)))
