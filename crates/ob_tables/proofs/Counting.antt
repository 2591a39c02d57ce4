-- How many numbers of a list pass a test, and numbers that fill a range.
use Rattle.std.specs.Prelude.{◌≡◌, ◌≢◌, ℕ, ◌+◌, ◌-◌, ◌<◌, ◌≤◌, Bool, true, false, List, [], ◌∷◌, ◌++◌, length}
use Rattle.std.specs.List.{count_by, find, range_with_len}
use Rattle.std.proofs.Common.{zero, suc, add-one, Option, Some, None, cond, ltb, arith, refl, sym, ap, ◌∙◌, get_or, inl, inr, ◌⊎◌}
use Rattle.std.proofs.lemmas.List.Sums.{sum_by-cons, sum_by_push}
use Rattle.std.proofs.lemmas.Bool.{true≢false, false≢true, cases_eq}
use Rattle.std.proofs.lemmas.Bool.Decides.{nat_tests}

one_le : (a b : Bool) → (a ≡ true → b ≡ true) → cond a 1 0 ≤ cond b 1 0
one_le true true f = omega arith
one_le true false f = absurd (false≢true (f refl))
one_le false b f = omega arith

lt_head : (a b : Bool) (m n : ℕ) → a ≡ false → b ≡ true → m ≤ n → cond a 1 0 + m < cond b 1 0 + n
lt_head true b m n e f h = absurd (true≢false e)
lt_head false true m n e f h = omega arith
lt_head false false m n e f h = absurd (false≢true f)

pub one_at_most : (a : Bool) → cond a 1 0 ≤ 1
one_at_most true = omega arith
one_at_most false = omega arith

pub none_of : (a : Bool) → a ≡ false → ◌≡◌ {A = ℕ} (cond a 1 0) 0
none_of true e = absurd (true≢false e)
none_of false e = refl

None≢Some : {a : ℕ} → None ≡ Some a → ⊥
None≢Some e = cc

later : (b : Bool) (x y z : Option ℕ) (a : ℕ) → (x ≡ None → y ≡ z) → cond b (Some a) x ≡ None → cond b (Some a) y ≡ z
later true x y z a f h = absurd (None≢Some (sym h))
later false x y z a f h = f h

module _ {X : Type 0} where
  pub count_by-cons : (p : X → Bool) (x : X) (xs : List X) → count_by p (x ∷ xs) ≡ cond (p x) 1 0 + count_by p xs
  count_by-cons p x xs = sum_by-cons (λ y. cond (p y) 1 0) x xs

  -- a weaker test passes no fewer
  pub count_by-le : (p q : X → Bool) → ((x : X) → p x ≡ true → q x ≡ true) → (xs : List X) → count_by p xs ≤ count_by q xs
  count_by-le p q f [] = omega arith
  count_by-le p q f (x ∷ xs) = omega (arith, count_by-cons p x xs, count_by-cons q x xs, one_le (p x) (q x) (f x), count_by-le p q f xs)

  -- and more where one element passes it alone
  pub count_by-lt : (p q : X → Bool) → ((x : X) → p x ≡ true → q x ≡ true) → (xs : List X) (k : ℕ) (d : X) → k < length xs → p (get_or xs k d) ≡ false → q (get_or xs k d) ≡ true → count_by p xs < count_by q xs
  count_by-lt p q f [] k d h off on = absurd (omega arith)
  count_by-lt p q f (x ∷ xs) zero d h off on = rw (count_by-cons p x xs, count_by-cons q x xs) (lt_head (p x) (q x) _ _ off on (count_by-le p q f xs))
  count_by-lt p q f (x ∷ xs) (suc k) d h off on = omega (arith, count_by-cons p x xs, count_by-cons q x xs, one_le (p x) (q x) (f x), count_by-lt p q f xs k d (omega arith) off on)

  pub count_by-le-length : (p : X → Bool) (xs : List X) → count_by p xs ≤ length xs
  count_by-le-length p [] = omega arith
  count_by-le-length p (x ∷ xs) = omega (arith, count_by-cons p x xs, one_at_most (p x), count_by-le-length p xs)

  pub count_by-lt-length : (p : X → Bool) (xs : List X) (k : ℕ) (d : X) → k < length xs → p (get_or xs k d) ≡ false → count_by p xs < length xs
  count_by-lt-length p [] k d h off = absurd (omega arith)
  count_by-lt-length p (x ∷ xs) zero d h off = omega (arith, count_by-cons p x xs, none_of (p x) off, count_by-le-length p xs)
  count_by-lt-length p (x ∷ xs) (suc k) d h off = omega (arith, count_by-cons p x xs, one_at_most (p x), count_by-lt-length p xs k d (omega arith) off)

pub range_more : (a n j : ℕ) → a + n ≡ j → range_with_len a (suc n) ≡ range_with_len a n ++ j ∷ []
range_more a zero j e = let same : a ≡ j = omega arith in rw same refl
range_more a (suc n) j e = ap (λ xs. a ∷ xs) (range_more (a + 1) n j (omega arith))

pub count_by-range_more : (p : ℕ → Bool) (n : ℕ) → count_by p (range_with_len 0 (n + 1)) ≡ count_by p (range_with_len 0 n) + cond (p n) 1 0
count_by-range_more p n = rw (add-one, range_more 0 n n (omega arith)) (sum_by_push (λ y. cond (p y) 1 0) (range_with_len 0 n) n)

-- a search of a range goes on, and ends
pub find-range_more : (p : ℕ → Bool) (a n j : ℕ) → a + n ≡ j → find p (range_with_len a n) ≡ None → p j ≡ false → find p (range_with_len a (suc n)) ≡ None
find-range_more p a zero j e h off = let same : a ≡ j = omega arith in rw (same, off) refl
find-range_more p a (suc n) j e h off = later (p a) (find p (range_with_len (a + 1) n)) (find p (range_with_len (a + 1) (suc n))) None a (λ h. find-range_more p (a + 1) n j (omega arith) h off) h

pub find-range_at : (p : ℕ → Bool) (a n m j : ℕ) → a + n ≡ j → n < m → find p (range_with_len a n) ≡ None → p j ≡ true → find p (range_with_len a m) ≡ Some j
find-range_at p a n zero j e k h on = absurd (omega arith)
find-range_at p a zero (suc m) j e k h on = let same : a ≡ j = omega arith in rw (same, on) refl
find-range_at p a (suc n) (suc m) j e k h on = later (p a) (find p (range_with_len (a + 1) n)) (find p (range_with_len (a + 1) m)) (Some j) a (λ h. find-range_at p (a + 1) n m j (omega arith) (omega arith) h on) h

-- ---- as many places as there are numbers: each place is taken

-- the numbers without v, pushed together
abbrev squeezed : ℕ → ℕ → ℕ
squeezed v y = cond (ltb y v) y (y - 1)

squeezed_apart : (v y z : ℕ) → y ≢ v → z ≢ v → squeezed v y ≡ squeezed v z → y ≡ z
squeezed_apart v y z a b e = grind (arith, nat_tests)

squeezed_within : (v y m : ℕ) → y ≢ v → v < suc m → y < suc m → squeezed v y < m
squeezed_within v y m a h k = grind (arith, nat_tests)

pub fits_apart : (n m : ℕ) (f : ℕ → ℕ) → ((j : ℕ) → j < n → f j < m) → ((i j : ℕ) → i < n → j < n → f i ≡ f j → i ≡ j) → n ≤ m
fits_apart zero m f within apart = omega arith
fits_apart (suc n) zero f within apart = absurd (let h : f n < 0 = within n (omega arith) in omega arith)
fits_apart (suc n) (suc m) f within apart =
    let other : (j : ℕ) → j < n → f j ≢ f n = λ j h e. (let same : j ≡ n = apart j n (omega arith) (omega arith) e in omega arith) in
    let rest : n ≤ m = fits_apart n m (λ j. squeezed (f n) (f j))
    (λ j h. squeezed_within (f n) (f j) m (other j h) (within n (omega arith)) (within j (omega arith)))
    (λ i j h k e. apart i j (omega arith) (omega arith) (squeezed_apart (f n) (f i) (f j) (other i h) (other j k) e)) in
    omega arith

pub look_up : (f : ℕ → ℕ) (s n : ℕ) → ((j : ℕ) × (j < n) × (f j ≡ s)) ⊎ ((j : ℕ) → j < n → f j ≢ s)
look_up f s zero = inr (λ j h. absurd (omega arith))
look_up f s (suc n) = elim (cases_eq (f n) s) [
  | inl e ↦ inl (n, omega arith, e)
  | inr ne ↦ elim (look_up f s n) [
    | inl found ↦ inl (found.0, (let h : found.0 < n = found.1 in omega arith), found.2)
    | inr none ↦ inr (λ j h e. elim (cases_eq j n) [ inl at ↦ ne (ap f (sym at) ∙ e) | inr off ↦ none j (omega arith) e ])
  ]
]

pub onto_of_apart : (n : ℕ) (f : ℕ → ℕ) → ((j : ℕ) → j < n → f j < n) → ((i j : ℕ) → i < n → j < n → f i ≡ f j → i ≡ j) → (s : ℕ) → s < n → (j : ℕ) × (j < n) × (f j ≡ s)
onto_of_apart zero f within apart s h = absurd (omega arith)
onto_of_apart (suc n) f within apart s h = elim (look_up f s (suc n)) [
  | inl found ↦ found
  | inr none ↦ absurd (
      let short : suc n ≤ n = fits_apart (suc n) n (λ j. squeezed s (f j))
      (λ j k. squeezed_within s (f j) n (none j k) h (within j k))
      (λ i j k l e. apart i j k l (squeezed_apart s (f i) (f j) (none i k) (none j l) e)) in
      omega arith)
]
