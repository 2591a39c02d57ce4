-- Bytes that fill the plain parts of several sealed cells.
use Rattle.std.specs.Prelude.{ℕ, ◌+◌, ◌*◌, ◌%◌, ◌^◌, List, ◌++◌, take, drop, replicate}

-- the seal number i places on; sums with numbers that were read are modulo 2 ^ 64
abbrev pub onward : ℕ → ℕ → ℕ
onward number i = (number + i) % 2 ^ 64

-- the i-th 96 bytes, with zeros behind the last
unfoldable pub piece : ℕ → List ℕ → List ℕ
piece i bytes = take 96 (drop (96 * i) bytes ++ replicate 96 0)
