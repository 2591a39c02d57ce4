-- Integers in i64, and the bytes that spell them.
use Rattle.std.specs.Prelude.{ℕ, ◌^◌, Bool, ◌&&◌, nat_lt, List, Option, Some, None, if◌then◌else◌, ℤ, pos, negsuc}
use Rattle.std.specs.Str.{bytes_eq}
use Rattle.std.specs.Str.Parse.{signed_digits_value}
use Rattle.std.specs.Fmt.{signed_decimal}

-- whether it is in the range of i64
abbrev pub is_i64 : ℤ → Bool
is_i64 (pos n) = nat_lt n (2 ^ 63)
is_i64 (negsuc n) = nat_lt n (2 ^ 63)

-- whether these bytes are just what spells this integer, which is in the range
abbrev pub is_spelled : ℤ → List ℕ → Bool
is_spelled z bytes = is_i64 z && bytes_eq bytes (signed_decimal z)

-- The integer in the range whose canonical decimal these bytes are, if they are one: what their digits write is spelled so again.
abbrev pub integer_of : List ℕ → Option ℤ
integer_of bytes = if is_spelled (signed_digits_value 10 bytes) bytes then Some (signed_digits_value 10 bytes) else None
