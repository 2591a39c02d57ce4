-- Where bytes are cut.
use Rattle.std.proofs.Common.{◌≡◌, ◌<◌, ◌≤◌, ◌+◌, ◌^◌, ◌⊎◌, ℕ, length, take, drop, get_or, sym, append_assoc, Bool, true, false, ◌==◌, List, [], ◌∷◌, ◌++◌, Option, Some, None, refl, ap, ◌∙◌, arith, cond, inl, inr}
use Rattle.std.specs.Prelude.{option_map}
use Rattle.std.specs.Str.{all_ascii_digits}
use Rattle.std.specs.Fmt.{decimal}
use Rattle.std.proofs.lemmas.Bool.{eqb-true, ne_eqb}
use Rattle.std.proofs.lemmas.List.{take_more, drop_more, drop_all}
use Rattle.std.proofs.lemmas.Str.Parse.{tells_all_ascii_digits}
use Rattle.std.proofs.lemmas.Fmt.{digits_decimal}
use Rattle.ob_audit.specs.Reading.{cut_at}
use Rattle.ob_audit.proofs.Numerals.{own}

choose : {A : Type 0} (b : Bool) (x y z : A) → cond b x y ≡ z → ((b ≡ true) × (x ≡ z)) ⊎ ((b ≡ false) × (y ≡ z))
choose true x y z h = inl (refl, h)
choose false x y z h = inr (refl, h)

-- a cut with more in front of what stands before it
abbrev pub with_front : List ℕ → Option (List ℕ × List ℕ) → Option (List ℕ × List ℕ)
with_front front cut = option_map (λ p. (front ++ p.0, p.1)) cut

no_front : (cut : Option (List ℕ × List ℕ)) → cut ≡ with_front [] cut
no_front None = refl
no_front (Some p) = refl

both_fronts : (front more : List ℕ) (x : ℕ) (cut : Option (List ℕ × List ℕ)) → more ≡ front ++ x ∷ [] → with_front front (with_front (x ∷ []) cut) ≡ with_front more cut
both_fronts front more x None e = refl
both_fronts front more x (Some q) e =
    let same : front ++ x ∷ q.0 ≡ more ++ q.0 = sym (append_assoc front (x ∷ []) q.0) ∙ ap (λ (t : List ℕ). t ++ q.0) (sym e) in
    rw same refl

-- before the first byte, behind one that is another, and behind the last
pub cut_begun : (at : ℕ) (bytes : List ℕ) → cut_at at bytes ≡ with_front (take 0 bytes) (cut_at at (drop 0 bytes))
cut_begun at bytes = no_front (cut_at at bytes)

pub cut_further : (at : ℕ) (bytes : List ℕ) (i : ℕ) → i < length bytes → (get_or bytes i 0 ≡ at → ⊥) → with_front (take i bytes) (cut_at at (drop i bytes)) ≡ with_front (take (i + 1) bytes) (cut_at at (drop (i + 1) bytes))
cut_further at bytes i lt other =
    let x : ℕ = get_or bytes i 0 in
    let rest : List ℕ = drop (i + 1) bytes in
    let no : (x == at) ≡ false = ne_eqb x at other in
    let head : cut_at at (x ∷ rest) ≡ with_front (x ∷ []) (cut_at at rest) = rw no refl in
    ap (with_front (take i bytes)) (ap (cut_at at) (drop_more bytes i 0 lt) ∙ head) ∙ both_fronts (take i bytes) (take (i + 1) bytes) x (cut_at at rest) (take_more bytes i 0 lt)

pub cut_nowhere : (at : ℕ) (bytes : List ℕ) (i : ℕ) → length bytes ≤ i → cut_at at bytes ≡ with_front (take i bytes) (cut_at at (drop i bytes)) → ◌≡◌ {A = Option (List ℕ × List ℕ)} None (cut_at at bytes)
cut_nowhere at bytes i all told = sym (told ∙ ap (λ (rest : List ℕ). with_front (take i bytes) (cut_at at rest)) (drop_all i bytes all))

pub cut_found : (at : ℕ) (xs : List ℕ) (p : List ℕ × List ℕ) → cut_at at xs ≡ Some p → xs ≡ p.0 ++ at ∷ p.1
cut_found at [] p h = cc
cut_found at (x ∷ xs) p h = elim (choose (x == at) (Some ([], xs)) (option_map (λ p. (x ∷ p.0, p.1)) (cut_at at xs)) (Some p) h) [
  | inl here ↦ let same = eqb-true x at here.0 in let e : ◌≡◌ {A = List ℕ × List ℕ} ([], xs) p = cc here.1 in rw (← e, same) refl
  | inr later ↦ elim (cut_at at xs) as (λ o. cut_at at xs ≡ o → option_map (λ p. (x ∷ p.0, p.1)) o ≡ Some p → x ∷ xs ≡ p.0 ++ at ∷ p.1) [
    | None ↦ λ e f. cc
    | Some q ↦ λ e f. let g : ◌≡◌ {A = List ℕ × List ℕ} (x ∷ q.0, q.1) p = cc f in rw (← g) (ap (λ (t : List ℕ). x ∷ t) (cut_found at xs q e))
  ] refl later.1
]

-- digits have no space
pub cut_digits : (ds more : List ℕ) → all_ascii_digits ds ≡ true → cut_at 32 (ds ++ 32 ∷ more) ≡ Some (ds, more)
cut_digits [] more h = refl
cut_digits (d ∷ ds) more h =
    let parts = tells_all_ascii_digits.parts d ds h in
    let digit = parts.0 in
    let other : (d == 32) ≡ false = ne_eqb d 32 (λ e. omega (arith, e, digit.0)) in
    let rest = cut_digits ds more parts.1 in
    rw (other, rest) refl

-- a number before a blank
pub cut_number : (n : ℕ) (rest : List ℕ) → n < 2 ^ 64 → cut_at 32 (decimal n ++ 32 ∷ rest) ≡ Some (decimal n, rest)
cut_number n rest small = cut_digits (decimal n) rest (digits_decimal own n (omega arith))

pub some_inner : {A : Type 0} (x y : A) → ◌≡◌ {A = Option A} (Some x) (Some y) → x ≡ y
some_inner x y same = cc

-- the number before the first blank, as far as there is one
pub first_only : (bytes word behind : List ℕ) (o : Option ℕ) → ◌≡◌ {A = Option (List ℕ × List ℕ)} (Some (word, behind)) (cut_at 32 bytes) → ((n : ℕ) → n < 2 ^ 32 → word ≡ decimal n → o ≡ Some n) → (n : ℕ) (rest : List ℕ) → n < 2 ^ 32 → bytes ≡ decimal n ++ 32 ∷ rest
    → ◌≡◌ {A = Option (ℕ × List ℕ)} (option_map (λ m. (m, behind)) o) (Some (n, rest))
first_only bytes word behind o at only n rest small is =
    let whole : ◌≡◌ {A = Option (List ℕ × List ℕ)} (Some (word, behind)) (Some (decimal n, rest)) = at ∙ ap (cut_at 32) is ∙ cut_number n rest (omega arith) in
    let pair = some_inner {A = List ℕ × List ℕ} (word, behind) (decimal n, rest) whole in
    let same_word : word ≡ decimal n = ap (λ (p : List ℕ × List ℕ). p.0) pair in
    let same_rest : behind ≡ rest = ap (λ (p : List ℕ × List ℕ). p.1) pair in
    ap (option_map (λ (m : ℕ). (m, behind))) (only n small same_word) ∙ ap (λ (r : List ℕ). Some (n, r)) same_rest

pub first_none : (bytes : List ℕ) → ◌≡◌ {A = Option (List ℕ × List ℕ)} None (cut_at 32 bytes) → (n : ℕ) (rest : List ℕ) → n < 2 ^ 32 → bytes ≡ decimal n ++ 32 ∷ rest → ◌≡◌ {A = Option (ℕ × List ℕ)} None (Some (n, rest))
first_none bytes at n rest small is =
    let whole : ◌≡◌ {A = Option (List ℕ × List ℕ)} None (Some (decimal n, rest)) = at ∙ ap (cut_at 32) is ∙ cut_number n rest (omega arith) in
    absurd (cc)
