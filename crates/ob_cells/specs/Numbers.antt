-- How a number is told of a cell that breaks a rule.
use Rattle.std.specs.Prelude.{ℕ, List, ◌++◌, replicate}
use Rattle.std.specs.Int.{w64, to_le_bytes}

-- 8 bytes of the number, low byte first, and 8 zeros
unfoldable pub told_number : ℕ → List ℕ
told_number n = to_le_bytes w64 n ++ replicate 8 0
