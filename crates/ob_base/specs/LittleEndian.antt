-- Numbers in bytes, low byte first.
use Rattle.std.specs.Prelude.{ℕ, List, ◌++◌, ◌+◌, take, drop, length}
use Rattle.std.specs.Int.{Width, byte_len, from_le_bytes}

-- the number of this width whose bytes stand at a place
abbrev pub field_at : Width → List ℕ → ℕ → ℕ
field_at w bytes at = from_le_bytes w (take (byte_len w) (drop at bytes))

-- the bytes with others in their place
abbrev pub with_part : List ℕ → ℕ → List ℕ → List ℕ
with_part bytes at part = take at bytes ++ part ++ drop (at + length part) bytes
