-- Numerals and their numbers.
use Rattle.std.proofs.Common.{◌≡◌, ◌<◌, ◌^◌, ℕ, zero, suc, get_or, Bool, true, false, ◌&&◌, ◌||◌, not, ◌==◌, List, [], ◌∷◌, length, Option, Some, None, refl, sym, ap, arith, cond, nat_lt}
use Rattle.std.specs.Str.{all_ascii_digits, IsUtf8}
use Rattle.std.specs.Str.Parse.{digits_value}
use Rattle.std.specs.Fmt.{decimal}
use Rattle.std.proofs.lemmas.Str.{IsUtf8-from_ascii}
use Rattle.std.proofs.lemmas.Fmt.{IsAscii-from_digits, digits_decimal, digits_value-decimal, decimal-digits_value, first_decimal, decimal_nonempty, decimal_digit}
use Rattle.std.proofs.lemmas.Str.Parse.{IsNumeralModel, numerals_by_value, tells_all_ascii_digits}
use Rattle.std.proofs.lemmas.Bool.{ltb-true, lt-ltb, eqb-true, ne_eqb}
use Rattle.std.proofs.lemmas.Option.{cond_some}
use Rattle.ob_audit.specs.Reading.{is_canonical, wide_number}

pub own : IsNumeralModel (λ ds. all_ascii_digits ds ≡ true) (digits_value 10)
own = numerals_by_value _ tells_all_ascii_digits

pub numeral_digits : (bytes : List ℕ) → is_canonical bytes ≡ true → all_ascii_digits bytes ≡ true
numeral_digits [] h = cc
numeral_digits (d ∷ ds) h = elim (all_ascii_digits (d ∷ ds)) as (λ b. (b && (not (d == 48) || length ds == 0)) ≡ true → b ≡ true) [ true ↦ λ _. refl | false ↦ λ e. e ] h

pub numeral_utf8 : (bytes : List ℕ) → is_canonical bytes ≡ true → IsUtf8 bytes
numeral_utf8 bytes h = IsUtf8-from_ascii bytes (IsAscii-from_digits bytes (own.to bytes (numeral_digits bytes h)))

pub too_big : (bytes : List ℕ) → is_canonical bytes ≡ true → (digits_value 10 bytes < 2 ^ 64 → ⊥) → ◌≡◌ {A = Option ℕ} None (wide_number bytes)
too_big bytes h big = rw h (elim (nat_lt (digits_value 10 bytes) (2 ^ 64)) as (λ b. nat_lt (digits_value 10 bytes) (2 ^ 64) ≡ b → ◌≡◌ {A = Option ℕ} None (cond b (Some (digits_value 10 bytes)) None)) [ true ↦ λ e. absurd (big (ltb-true _ _ e)) | false ↦ λ e. refl ] refl)

pub numeral_some : (bytes : List ℕ) → is_canonical bytes ≡ true → 0 < length bytes
numeral_some [] h = cc
numeral_some (d ∷ ds) h = omega arith

pub both : (a b : Bool) → (a && b) ≡ true → (a ≡ true) × (b ≡ true)
both true b h = (refl, h)
both false b h = cc

-- no zero in front
front : (d : ℕ) (ds : List ℕ) → (not (d == 48) || length ds == 0) ≡ true → d ≡ 48 → length (d ∷ ds) ≡ 1
front d ds h e = let again = rw e at h in ap (λ n. n) (omega (arith, eqb-true (length ds) 0 again))

pub number_found : (bytes : List ℕ) (n : ℕ) → wide_number bytes ≡ Some n → (bytes ≡ decimal n) × (n < 2 ^ 64)
number_found [] n h = cc
number_found (d ∷ ds) n h =
    let tests = cond_some _ _ _ h in
    let parts = both _ _ tests.0 in
    let inner = both _ _ parts.0 in
    let small = ltb-true _ _ parts.1 in
    let same = decimal-digits_value own (d ∷ ds) inner.0 (omega arith) (front d ds inner.1) (omega (arith, small)) in
    (rw (← tests.1) (sym same), rw (← tests.1) small)

numeral_from : (ds : List ℕ) → all_ascii_digits ds ≡ true → 0 < length ds → 48 < get_or ds 0 0 → is_canonical ds ≡ true
numeral_from [] h some first = absurd (omega arith)
numeral_from (d ∷ ds) h some first = let other : (d == 48) ≡ false = ne_eqb d 48 (λ e. omega (arith, e)) in rw (h, other) refl

numeral_decimal : (n : ℕ) → n < 2 ^ 64 → is_canonical (decimal n) ≡ true
numeral_decimal zero small = rw (decimal_digit 0 (omega arith)) refl
numeral_decimal (suc m) small = numeral_from (decimal (suc m)) (digits_decimal own (suc m) (omega arith)) (decimal_nonempty (suc m) (omega arith)) (first_decimal (suc m) (omega arith) (omega arith))

pub number_only : (n : ℕ) → n < 2 ^ 64 → wide_number (decimal n) ≡ Some n
number_only n small =
    let value = digits_value-decimal own n (omega arith) in
    rw (numeral_decimal n small, value) (rw (lt-ltb n (2 ^ 64) small) refl)
