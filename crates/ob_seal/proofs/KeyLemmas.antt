-- The text of a key file, and the keys in it.
use Rattle.std.proofs.Common.{◌≡◌, ◌==◌, ℕ, suc, ◌-◌, ◌<◌, Bool, true, false, List, [], ◌∷◌, ◌++◌, length, take, drop, arith, refl, sym, ap, ◌∙◌, if◌then◌else◌, inl, inr, append_assoc, length-drop, subst, ap₂, drop-cons}
use Rattle.std.specs.Prelude.{slice_index}
use Rattle.std.proofs.lemmas.Bool.{eqb-true}
use Rattle.std.proofs.lemmas.List.{take-append-drop, take_all, drop-drop, drop_all, length-take-le}
use Rattle.ob_seal.specs.KeyText.{IsDigits, IsKeyText, digits_of}

-- three parts of 32 bytes are the 96
pub three_parts : (bytes : List ℕ) → length bytes ≡ 96 → bytes ≡ take 32 (drop 0 bytes) ++ take 32 (drop 32 bytes) ++ take 32 (drop 64 bytes)
three_parts bytes long =
    let second : drop 32 (drop 32 bytes) ≡ drop 64 bytes = drop-drop 32 32 bytes in
    let size : length (drop 64 bytes) ≡ 32 = length-drop 64 bytes ∙ omega arith in
    let last = take_all 32 (drop 64 bytes) (omega arith) in
    let parts = take-append-drop 32 (drop 32 bytes) in
    let whole = take-append-drop 32 bytes in
    let rest : take 32 (drop 32 bytes) ++ drop 64 bytes ≡ drop 32 bytes = rw (← second) parts in
    sym whole ∙ ap (λ (xs : List ℕ). take 32 bytes ++ xs) (sym rest) ∙ sym (append_assoc (take 32 bytes) (take 32 (drop 32 bytes)) (drop 64 bytes)) ∙ ap (λ (xs : List ℕ). take 32 bytes ++ take 32 (drop 32 bytes) ++ xs) (sym last)

longer : (text : List ℕ) → length (take (length text - 1) text) ≡ 192 → length text ≡ 193
longer text h = let size = length-take-le (length text - 1) text (omega arith) in omega arith

-- where the text without a line feed has 192 digits, the text is a key text
pub is_key_text : (text : List ℕ) → IsDigits (digits_of text) → IsKeyText text
is_key_text text digits = elim (slice_index text (length text - 1) == 10) as (λ (b : Bool). (slice_index text (length text - 1) == 10) ≡ b → IsKeyText text) [ true ↦ λ e. ended e | false ↦ λ e. whole e ] refl
  where
    whole : (slice_index text (length text - 1) == 10) ≡ false → IsKeyText text
    whole e = inl (subst IsDigits (ap (λ (b : Bool). if b then take (length text - 1) text else text) e) digits)

    ended : (slice_index text (length text - 1) == 10) ≡ true → IsKeyText text
    ended e =
        let test : digits_of text ≡ take (length text - 1) text = ap (λ (b : Bool). if b then take (length text - 1) text else text) e in
        let found : IsDigits (take (length text - 1) text) = subst IsDigits test digits in
        let size : length text ≡ 193 = longer text found.0 in
        let last : slice_index text (length text - 1) ≡ 10 = eqb-true (slice_index text (length text - 1)) 10 e in
        let lt : length text - 1 < length text = omega arith in
        let rest : drop (length text - 1) text ≡ 10 ∷ [] = drop-cons text (length text - 1) 0 lt ∙ ap₂ (λ (x : ℕ) (xs : List ℕ). x ∷ xs) last (drop_all (suc (length text - 1)) text (omega arith)) in
        inr (take (length text - 1) text, found, sym (take-append-drop (length text - 1) text) ∙ ap (λ (xs : List ℕ). take (length text - 1) text ++ xs) rest)
