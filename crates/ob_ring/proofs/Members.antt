-- Lists of different numbers.
use Rattle.std.specs.Prelude.{◌≡◌, ℕ, ◌+◌, ◌<◌, ◌≤◌, ◌==◌, Bool, true, false, cond, ◌||◌, List, [], ◌∷◌, ◌++◌, length, filter, take, ⊤}
use Rattle.std.specs.List.{range_with_len, position_or_len}
use Rattle.std.proofs.Common.{zero, suc, arith, refl, sym, ap, ◌∙◌, get_or, inl, inr, ◌⊎◌}
use Rattle.std.proofs.lemmas.Bool.{true≢false, false≢true, cases_Bool, eq-eqb, eqb-true, or_cases, or_from, or_left, or_right}
use Rattle.std.proofs.lemmas.List.Sums.{passes_at_first}
use Rattle.ob_schedule.specs.Paths.{is_one_of}

abbrev pub IsDistinct : List ℕ → Type 0
IsDistinct [] = ⊤
IsDistinct (x ∷ xs) = (is_one_of xs x ≡ false) × IsDistinct xs

pub or_assoc : (a b c : Bool) → (a || (b || c)) ≡ ((a || b) || c)
or_assoc true b c = refl
or_assoc false b c = refl

pub one_of-append : (xs ys : List ℕ) (k : ℕ) → is_one_of (xs ++ ys) k ≡ (is_one_of xs k || is_one_of ys k)
one_of-append [] ys k = refl
one_of-append (x ∷ xs) ys k = rw (one_of-append xs ys k) (or_assoc (x == k) (is_one_of xs k) (is_one_of ys k))

pub one_of-take : (n : ℕ) (xs : List ℕ) (k : ℕ) → is_one_of (take n xs) k ≡ true → is_one_of xs k ≡ true
one_of-take zero xs k e = absurd (false≢true e)
one_of-take (suc n) [] k e = e
one_of-take (suc n) (x ∷ xs) k e = elim (or_cases (x == k) (is_one_of (take n xs) k) e) [
  | inl at ↦ or_left (x == k) (is_one_of xs k) at
  | inr off ↦ or_right (x == k) (is_one_of xs k) (one_of-take n xs k off)
]

filter_case : (b : Bool) (f : ℕ → Bool) (x : ℕ) (xs ys : List ℕ) (k : ℕ) → f x ≡ b → ((is_one_of ys k ≡ true) → (f k ≡ true) × (is_one_of xs k ≡ true)) → is_one_of (cond b (x ∷ ys) ys) k ≡ true → (f k ≡ true) × (((x == k) || is_one_of xs k) ≡ true)
filter_case true f x xs ys k is h e = elim (or_cases (x == k) (is_one_of ys k) e) [
  | inl at ↦ (let same : x ≡ k = eqb-true x k at in rw (← same) is, or_left (x == k) (is_one_of xs k) at)
  | inr off ↦ ((h off).0, or_right (x == k) (is_one_of xs k) (h off).1)
]
filter_case false f x xs ys k is h e = ((h e).0, or_right (x == k) (is_one_of xs k) (h e).1)

-- what a filter keeps passes its test and stood in the list
pub one_of-filter : (f : ℕ → Bool) (xs : List ℕ) (k : ℕ) → is_one_of (filter f xs) k ≡ true → (f k ≡ true) × (is_one_of xs k ≡ true)
one_of-filter f [] k e = absurd (false≢true e)
one_of-filter f (x ∷ xs) k e = filter_case (f x) f x xs (filter f xs) k refl (one_of-filter f xs k) e

pub one_of-range : (a n k : ℕ) → is_one_of (range_with_len a n) k ≡ true → (a ≤ k) × (k < a + n)
one_of-range a zero k e = absurd (false≢true e)
one_of-range a (suc n) k e = elim (or_cases (a == k) (is_one_of (range_with_len (a + 1) n) k) e) [
  | inl at ↦ (let same : a ≡ k = eqb-true a k at in (omega arith, omega arith))
  | inr off ↦ (let h : (a + 1 ≤ k) × (k < (a + 1) + n) = one_of-range (a + 1) n k off in (omega (arith, h.0), omega (arith, h.1)))
]

pub off_unless : (b : Bool) → (b ≡ true → ⊥) → b ≡ false
off_unless true h = absurd (h refl)
off_unless false h = refl

pub distinct-range : (a n : ℕ) → IsDistinct (range_with_len a n)
distinct-range a zero = tt
distinct-range a (suc n) = (off_unless (is_one_of (range_with_len (a + 1) n) a) (λ e. (let h : a + 1 ≤ a = (one_of-range (a + 1) n a e).0 in omega arith)), distinct-range (a + 1) n)

distinct_filter_case : (b : Bool) (f : ℕ → Bool) (x : ℕ) (xs ys : List ℕ) → (is_one_of xs x ≡ false) → ((is_one_of ys x ≡ true) → is_one_of xs x ≡ true) → IsDistinct ys → IsDistinct (cond b (x ∷ ys) ys)
distinct_filter_case true f x xs ys off h d = (off_unless (is_one_of ys x) (λ e. true≢false (sym (h e) ∙ off)), d)
distinct_filter_case false f x xs ys off h d = d

pub distinct-filter : (f : ℕ → Bool) (xs : List ℕ) → IsDistinct xs → IsDistinct (filter f xs)
distinct-filter f [] d = tt
distinct-filter f (x ∷ xs) d = distinct_filter_case (f x) f x xs (filter f xs) d.0 (λ e. (one_of-filter f xs x e).1) (distinct-filter f xs d.1)

pub distinct-take : (n : ℕ) (xs : List ℕ) → IsDistinct xs → IsDistinct (take n xs)
distinct-take zero xs d = tt
distinct-take (suc n) [] d = tt
distinct-take (suc n) (x ∷ xs) d = (off_unless (is_one_of (take n xs) x) (λ e. true≢false (sym (one_of-take n xs x e) ∙ d.0)), distinct-take n xs d.1)

pub distinct-append : (xs ys : List ℕ) → IsDistinct xs → IsDistinct ys → ((k : ℕ) → is_one_of xs k ≡ true → is_one_of ys k ≡ false) → IsDistinct (xs ++ ys)
distinct-append [] ys d e h = e
distinct-append (x ∷ xs) ys d e h = (
  one_of-append xs ys x ∙ or_from (is_one_of xs x) (is_one_of ys x) d.0 (h x (or_left (x == x) (is_one_of xs x) (eq-eqb x x refl))),
  distinct-append xs ys d.1 e (λ k on. h k (or_right (x == k) (is_one_of xs k) on)),
)

pub length_take : (n : ℕ) (xs : List ℕ) → length (take n xs) ≤ n
length_take zero xs = omega arith
length_take (suc n) [] = omega arith
length_take (suc n) (x ∷ xs) = omega (arith, length_take n xs)

-- the place of a number in a list
pub position_within : (xs : List ℕ) (k : ℕ) → is_one_of xs k ≡ true → position_or_len (λ c. c == k) xs < length xs
position_within [] k e = absurd (false≢true e)
position_within (x ∷ xs) k e = elim (cases_Bool (x == k)) [
  | inl at ↦ rw at (omega arith)
  | inr off ↦ (let rest : is_one_of xs k ≡ true = rw off at e in rw off (omega (arith, position_within xs k rest)))
]

pub position_apart : (xs : List ℕ) (k k' : ℕ) → is_one_of xs k ≡ true → is_one_of xs k' ≡ true → position_or_len (λ c. c == k) xs ≡ position_or_len (λ c. c == k') xs → k ≡ k'
position_apart xs k k' e e' same =
    let at : get_or xs (position_or_len (λ c. c == k) xs) 0 ≡ k = eqb-true _ k (passes_at_first (λ c. c == k) xs 0 (position_within xs k e)) in
    let at' : get_or xs (position_or_len (λ c. c == k') xs) 0 ≡ k' = eqb-true _ k' (passes_at_first (λ c. c == k') xs 0 (position_within xs k' e')) in
    sym at ∙ ap (λ i. get_or xs i 0) same ∙ at'

kept_case : (b : Bool) (f : ℕ → Bool) (x : ℕ) (ys : List ℕ) (u : ℕ) → f x ≡ b → f u ≡ true → (((x == u) ≡ true) ⊎ (is_one_of ys u ≡ true)) → is_one_of (cond b (x ∷ ys) ys) u ≡ true
kept_case true f x ys u e on (inl a) = or_left (x == u) (is_one_of ys u) a
kept_case true f x ys u e on (inr a) = or_right (x == u) (is_one_of ys u) a
kept_case false f x ys u e on (inl a) = absurd (true≢false (sym on ∙ ap f (sym (eqb-true x u a)) ∙ e))
kept_case false f x ys u e on (inr a) = a

pub one_of-filter_from : (f : ℕ → Bool) (xs : List ℕ) (u : ℕ) → f u ≡ true → is_one_of xs u ≡ true → is_one_of (filter f xs) u ≡ true
one_of-filter_from f [] u on e = absurd (false≢true e)
one_of-filter_from f (x ∷ xs) u on e = elim (or_cases (x == u) (is_one_of xs u) e) [
  | inl a ↦ kept_case (f x) f x (filter f xs) u refl on (inl a)
  | inr a ↦ kept_case (f x) f x (filter f xs) u refl on (inr (one_of-filter_from f xs u on a))
]
