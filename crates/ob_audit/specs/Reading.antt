-- Private: how a number is read.
use Rattle.std.specs.Prelude.{ℕ, ◌^◌, Bool, false, ◌&&◌, ◌||◌, not, ◌==◌, nat_lt, List, [], ◌∷◌, length, Option, Some, None, option_map, if◌then◌else◌}
use Rattle.std.specs.Str.{all_ascii_digits}
use Rattle.std.specs.Str.Parse.{digits_value}

-- what stands before the first such byte, and what behind it
abbrev pub cut_at : ℕ → List ℕ → Option (List ℕ × List ℕ)
cut_at at [] = None
cut_at at (x ∷ xs) = if x == at then Some ([], xs) else option_map (λ p. (x ∷ p.0, p.1)) (cut_at at xs)

-- digits with no zero in front, but `0` alone
abbrev pub is_canonical : List ℕ → Bool
is_canonical [] = false
is_canonical (d ∷ ds) = all_ascii_digits (d ∷ ds) && (not (d == 48) || length ds == 0)

abbrev pub wide_number : List ℕ → Option ℕ
wide_number bytes = if is_canonical bytes && nat_lt (digits_value 10 bytes) (2 ^ 64) then Some (digits_value 10 bytes) else None
