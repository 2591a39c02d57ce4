-- Integers in i64 and what spells them.
use Rattle.std.proofs.Common.{◌≡◌, ◌<◌, ◌^◌, ℕ, suc, get_or, true, false, ◌==◌, List, Option, Some, None, refl, sym, ap, arith, ℤ, pos, negsuc, neg_ℤ}
use Rattle.std.specs.Prelude.{FitsSigned, IfSome}
use Rattle.std.specs.Int.{w64, IsInRange}
use Rattle.std.specs.Str.{IsUtf8, bytes_eq}
use Rattle.std.specs.Str.Parse.{signed_digits_value}
use Rattle.std.specs.Fmt.{decimal, signed_decimal}
use Rattle.std.proofs.lemmas.Bool.{ltb-true, lt-ltb, ne_eqb}
use Rattle.std.proofs.lemmas.Option.{cond_some}
use Rattle.std.proofs.lemmas.Slice.Eq.{bytes_eq-Decides}
use Rattle.std.proofs.lemmas.Fmt.{decimal_is_IsNumeral, IsAscii-signed}
use Rattle.std.proofs.lemmas.Str.{IsUtf8-from_ascii}
use Rattle.std.proofs.lemmas.Str.Parse.{digit_at}
use Rattle.ob_script.specs.Integers.{integer_of, is_i64}
use Rattle.ob_script.proofs.Numbers.{both}

range_of : (z : ℤ) → is_i64 z ≡ true → FitsSigned w64 z
range_of (pos n) h = record { sfits = ltb-true n (2 ^ 63) h }
range_of (negsuc n) h = record { sfits = ltb-true n (2 ^ 63) h }

is_in : (z : ℤ) → FitsSigned w64 z → is_i64 z ≡ true
is_in (pos n) fits = lt-ltb n (2 ^ 63) fits.sfits
is_in (negsuc n) fits = lt-ltb n (2 ^ 63) fits.sfits

-- what is found is spelled so, and in range
pub integer_found : (bytes : List ℕ) (z : ℤ) → integer_of bytes ≡ Some z → (bytes ≡ signed_decimal z) × FitsSigned w64 z
integer_found bytes z h =
    let tests = cond_some _ _ _ h in
    let parts = both _ _ tests.0 in
    rw (← tests.1) ((bytes_eq-Decides bytes (signed_decimal (signed_digits_value 10 bytes))).0 parts.1, range_of _ parts.0)

-- a decimal's first byte is a digit
first_digit : (n : ℕ) → n < 2 ^ 64 → IsInRange 48 57 (get_or (decimal n) 0 0)
first_digit n small = let numeral = (decimal_is_IsNumeral n small).0 in digit_at (decimal n) 0 numeral.1 numeral.0

-- digits write the integer that they spell
value_of_spelled : (z : ℤ) → FitsSigned w64 z → signed_digits_value 10 (signed_decimal z) ≡ z
value_of_spelled (pos n) fits =
    let small : n < 2 ^ 64 = omega (arith, fits.sfits) in
    let first = first_digit n small in
    let no_minus : (get_or (decimal n) 0 0 == 45) ≡ false = ne_eqb _ 45 (λ e. omega (arith, e, first)) in
    let no_plus : (get_or (decimal n) 0 0 == 43) ≡ false = ne_eqb _ 43 (λ e. omega (arith, e, first)) in
    rw (no_minus, no_plus) (ap pos (decimal_is_IsNumeral n small).1)
value_of_spelled (negsuc n) fits =
    let small : suc n < 2 ^ 64 = omega (arith, fits.sfits) in
    ap (λ m. neg_ℤ (pos m)) (decimal_is_IsNumeral (suc n) small).1

-- and what spells one in range is found
pub integer_only : (z : ℤ) → FitsSigned w64 z → integer_of (signed_decimal z) ≡ Some z
integer_only z fits =
    let same : bytes_eq (signed_decimal z) (signed_decimal z) ≡ true = (bytes_eq-Decides (signed_decimal z) (signed_decimal z)).1 refl in
    rw (value_of_spelled z fits, is_in z fits, same) refl

pub spelled_utf8 : (bytes : List ℕ) (z : ℤ) → bytes ≡ signed_decimal z → FitsSigned w64 z → IsUtf8 bytes
spelled_utf8 bytes z is fits = rw is (IsUtf8-from_ascii (signed_decimal z) (IsAscii-signed z fits.sfits))

-- none is found where none is spelled
pub none_found : (bytes : List ℕ) → ((z : ℤ) → bytes ≡ signed_decimal z → FitsSigned w64 z → ⊥) → ◌≡◌ {A = Option ℤ} None (integer_of bytes)
none_found bytes none = elim (integer_of bytes) as (λ o. integer_of bytes ≡ o → None ≡ o) [
  | None ↦ λ e. refl
  | Some z ↦ λ e. let found = integer_found bytes z e in absurd (none z found.0 found.1)
] refl

pub if_spelled : (bytes : List ℕ) (found : Option ℤ) → found ≡ integer_of bytes → IfSome found (λ z. bytes ≡ signed_decimal z)
if_spelled bytes None is = tt
if_spelled bytes (Some z) is = (integer_found bytes z (sym is)).0
