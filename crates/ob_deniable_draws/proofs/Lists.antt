-- Lists by their numbers.
use Rattle.std.specs.Prelude.{◌≡◌, ℕ, ◌+◌, ◌<◌, ◌==◌, true, false, List, [], ◌∷◌, ◌++◌, map, length, slice_index}
use Rattle.std.specs.List.{position_or_len, range_with_len}
use Rattle.std.proofs.Common.{zero, suc, arith, refl, sym, ap, ◌∙◌}
use Rattle.std.proofs.lemmas.Bool.{eq-eqb, ne_eqb, or_left, or_right, true≢false}
use Rattle.ob_ring.proofs.Members.{IsDistinct}
use Rattle.ob_schedule.specs.Paths.{is_one_of}

-- two maps over ranges that agree number by number
pub map_same : (f g : ℕ → ℕ) (a b n : ℕ) → ((i : ℕ) → i < n → f (a + i) ≡ g (b + i)) → map f (range_with_len a n) ≡ map g (range_with_len b n)
map_same f g a b zero same = refl
map_same f g a b (suc n) same =
    let here : f a ≡ g b = ap f (let z : a ≡ a + 0 = omega arith in z) ∙ same 0 (omega arith) ∙ ap g (let z : b + 0 ≡ b = omega arith in z) in
    let rest : map f (range_with_len (a + 1) n) ≡ map g (range_with_len (b + 1) n) =
    map_same f g (a + 1) (b + 1) n (λ i lt. ap f (let z : (a + 1) + i ≡ a + suc i = omega arith in z) ∙ same (suc i) (omega arith) ∙ ap g (let z : b + suc i ≡ (b + 1) + i = omega arith in z)) in
    λ j. here j ∷ rest j

pub map_more : (f : ℕ → ℕ) (a n m : ℕ) → map f (range_with_len a (n + m)) ≡ map f (range_with_len a n) ++ map f (range_with_len (a + n) m)
map_more f a zero m = (λ j. map f (range_with_len ((let z : a ≡ a + 0 = omega arith in z) j) ((let z : 0 + m ≡ m = omega arith in z) j)))
map_more f a (suc n) m =
    ap (λ (k : ℕ). map f (range_with_len a k)) (let z : suc n + m ≡ suc (n + m) = omega arith in z)
    ∙ ap (λ (xs : List ℕ). f a ∷ xs) (map_more f (a + 1) n m ∙ ap (λ (b : ℕ). map f (range_with_len (a + 1) n) ++ map f (range_with_len b m)) (let z : (a + 1) + n ≡ a + suc n = omega arith in z))

pub one_at : (xs : List ℕ) (i : ℕ) → i < length xs → is_one_of xs (slice_index xs i) ≡ true
one_at [] i low = absurd (omega arith)
one_at (x ∷ xs) zero low = or_left (x == x) (is_one_of xs x) (eq-eqb x x refl)
one_at (x ∷ xs) (suc i) low = or_right (x == slice_index xs i) (is_one_of xs (slice_index xs i)) (one_at xs i (omega arith))

-- in a list without repeats each stands at its own number
pub position_is : (xs : List ℕ) (i : ℕ) → IsDistinct xs → i < length xs → position_or_len (λ v. v == slice_index xs i) xs ≡ i
position_is [] i distinct low = absurd (omega arith)
position_is (x ∷ xs) zero distinct low = rw (eq-eqb x x refl) refl
position_is (x ∷ xs) (suc i) distinct low =
    let other : (x == slice_index xs i) ≡ false = ne_eqb x (slice_index xs i) (λ e. true≢false (sym (one_at xs i (omega arith)) ∙ ap (is_one_of xs) (sym e) ∙ distinct.0)) in
    rw other (omega (arith, position_is xs i distinct.1 (omega arith)))
