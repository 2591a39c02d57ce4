use Rattle.std.proofs.Common.{◌≡◌, ◌<◌, ℕ, get_or, length}
use Rattle.std.specs.Prelude.{bit_xor}
use Rattle.ob_seal.proofs.cells.xored.Given as goal

abbrev pub invariant-loop-i : goal.invariant-loop-i
invariant-loop-i l =
    (length l.out ≡ 96) × ((k : ℕ) → k < l.i → get_or l.out k 0 ≡ bit_xor (get_or l.bytes k 0) (get_or l.pad k 0))
