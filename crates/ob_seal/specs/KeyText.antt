-- The text of a key file.
use Rattle.std.specs.Prelude.{◌≡◌, ◌==◌, ◌-◌, ℕ, List, [], ◌∷◌, ◌++◌, ◌⊎◌, length, take, slice_index, if◌then◌else◌}
use Rattle.std.specs.List.{AllPass}
use Rattle.hex.specs.Hex.{is_hex_digit}

-- 192 hexadecimal digits
abbrev pub IsDigits : List ℕ → Type 0
IsDigits text = (length text ≡ 192) × AllPass is_hex_digit text

-- 192 hexadecimal digits, and at most one line feed after them
abbrev pub IsKeyText : List ℕ → Type 0
IsKeyText text = IsDigits text ⊎ ((digits : List ℕ) × IsDigits digits × (text ≡ digits ++ 10 ∷ []))

-- the text without one line feed at its end
abbrev pub digits_of : List ℕ → List ℕ
digits_of text = if slice_index text (length text - 1) == 10 then take (length text - 1) text else text
