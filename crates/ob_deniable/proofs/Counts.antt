-- How many numbers of a range pass a test, when the range is permuted.
use Rattle.std.specs.Prelude.{◌≡◌, ℕ, ◌+◌, ◌<◌, ◌≤◌, ◌==◌, Bool, cond, List, [], ◌∷◌, map}
use Rattle.std.specs.List.{count_by, range_with_len}
use Rattle.std.proofs.Common.{zero, suc, arith, refl, sym, ap, subst, ◌∙◌, inl, inr}
use Rattle.std.proofs.lemmas.Bool.{cases_eq, eq-eqb, ne_eqb}
use Rattle.ob_base.specs.Repeats.{Has, NoRepeats}
use Rattle.ob_tables.proofs.Counting.{count_by-cons}
use Rattle.ob_deniable.specs.Moved.{PermutesBelow}
use Rattle.ob_deniable.proofs.Pairs.{has_mapped}

-- the list without the first x
abbrev without : ℕ → List ℕ → List ℕ
without x [] = []
without x (y ∷ ys) = cond (y == x) ys (y ∷ without x ys)

count_without : (p : ℕ → Bool) (x : ℕ) (ys : List ℕ) → Has ys x → count_by p ys ≡ cond (p x) 1 0 + count_by p (without x ys)
count_without p x [] h = absurd h
count_without p x (y ∷ ys) h = elim (cases_eq y x) [
  | inl e ↦ rw (eq-eqb y x e, sym e) (count_by-cons p y ys)
  | inr n ↦ (
      let tail : Has ys x = elim h [ inl e ↦ absurd (n e) | inr t ↦ t ] in
      rw (ne_eqb y x n) omega (arith, count_by-cons p y ys, count_by-cons p y (without x ys), count_without p x ys tail))
]

has_without : (x z : ℕ) (ys : List ℕ) → Has ys z → (z ≡ x → ⊥) → Has (without x ys) z
has_without x z [] h n = absurd h
has_without x z (y ∷ ys) h n = elim (cases_eq y x) [
  | inl e ↦ rw (eq-eqb y x e) elim h [ inl f ↦ absurd (n (sym f ∙ e)) | inr t ↦ t ]
  | inr m ↦ rw (ne_eqb y x m) elim h [ inl f ↦ inl f | inr t ↦ inr (has_without x z ys t n) ]
]

-- of a list without repeats, all in another, no more pass
pub count_apart : (p : ℕ → Bool) (xs ys : List ℕ) → NoRepeats xs → ((x : ℕ) → Has xs x → Has ys x) → count_by p xs ≤ count_by p ys
count_apart p [] ys apart all = omega arith
count_apart p (x ∷ xs) ys apart all =
    let rest : count_by p xs ≤ count_by p (without x ys) = count_apart p xs (without x ys) apart.1 (λ z h. has_without x z ys (all z (inr h)) (λ e. apart.0 (subst (λ (t : ℕ). Has xs t) e h))) in
    omega (arith, count_by-cons p x xs, count_without p x ys (all x (inl refl)), rest)

pub count_same : (p q : ℕ → Bool) (xs : List ℕ) → ((x : ℕ) → Has xs x → p x ≡ q x) → count_by p xs ≡ count_by q xs
count_same p q [] h = refl
count_same p q (x ∷ xs) h =
    let here : ◌≡◌ {A = ℕ} (cond (p x) 1 0) (cond (q x) 1 0) = ap (λ (b : Bool). cond {A = ℕ} b 1 0) (h x (inl refl)) in
    omega (arith, count_by-cons p x xs, count_by-cons q x xs, here, count_same p q xs (λ y t. h y (inr t)))

count_map : (p : ℕ → Bool) (f : ℕ → ℕ) (xs : List ℕ) → count_by p (map f xs) ≡ count_by (λ x. p (f x)) xs
count_map p f [] = refl
count_map p f (x ∷ xs) = omega (arith, count_by-cons p (f x) (map f xs), count_by-cons (λ y. p (f y)) x xs, count_map p f xs)

pub range_has : (a n x : ℕ) → Has (range_with_len a n) x → (a ≤ x) × (x < a + n)
range_has a zero x h = absurd h
range_has a (suc n) x (inl e) = (omega arith, omega arith)
range_has a (suc n) x (inr h) = let r = range_has (a + 1) n x h in let lo : a + 1 ≤ x = r.0 in let hi : x < a + 1 + n = r.1 in (omega arith, omega arith)

has_range : (a n x : ℕ) → a ≤ x → x < a + n → Has (range_with_len a n) x
has_range a zero x lo hi = absurd (omega arith)
has_range a (suc n) x lo hi = elim (cases_eq a x) [ inl e ↦ inl e | inr ne ↦ inr (has_range (a + 1) n x (omega arith) (omega arith)) ]

map_apart : (f : ℕ → ℕ) (a n : ℕ) → ((i j : ℕ) → i < a + n → j < a + n → f i ≡ f j → i ≡ j) → NoRepeats (map f (range_with_len a n))
map_apart f a zero apart = tt
map_apart f a (suc n) apart = (
  λ h. (
      let r = has_mapped f (range_with_len (a + 1) n) (f a) h in
      let w = range_has (a + 1) n r.0 r.1 in
      let lo : a + 1 ≤ r.0 = w.0 in
      let hi : r.0 < a + 1 + n = w.1 in
      let same : r.0 ≡ a = apart r.0 a (omega arith) (omega arith) r.2 in
      omega arith),
  map_apart f (a + 1) n (λ i j h k e. apart i j (omega arith) (omega arith) e),
)

-- an apart map within a range passes no more
count_no_more : (p : ℕ → Bool) (f : ℕ → ℕ) (n : ℕ) → ((j : ℕ) → j < n → f j < n) → ((i j : ℕ) → i < n → j < n → f i ≡ f j → i ≡ j) → count_by (λ x. p (f x)) (range_with_len 0 n) ≤ count_by p (range_with_len 0 n)
count_no_more p f n within apart =
    let r : List ℕ = range_with_len 0 n in
    let less : count_by p (map f r) ≤ count_by p r = count_apart p (map f r) r (map_apart f 0 n (λ i j h k. apart i j (omega arith) (omega arith)))
    (λ y h. (let x = has_mapped f r y h in let w = range_has 0 n x.0 x.1 in let hi : x.0 < 0 + n = w.1 in let low : f x.0 < n = within x.0 (omega arith) in let e : f x.0 ≡ y = x.2 in has_range 0 n y (omega arith) (omega arith))) in
    omega (arith, count_map p f r, less)

-- a range and the range permuted pass alike
pub count_permuted : (p : ℕ → Bool) (n : ℕ) (to from : ℕ → ℕ) → PermutesBelow n to from → count_by (λ x. p (from x)) (range_with_len 0 n) ≡ count_by p (range_with_len 0 n)
count_permuted p n to from m =
    let r : List ℕ = range_with_len 0 n in
    let less : count_by (λ x. p (from x)) r ≤ count_by p r = count_no_more p from n m.from_within (λ i j h k e. sym (m.back i h) ∙ ap to e ∙ m.back j k) in
    let more : count_by (λ x. p (from (to x))) r ≤ count_by (λ x. p (from x)) r = count_no_more (λ x. p (from x)) to n m.to_within (λ i j h k e. sym (m.there i h) ∙ ap from e ∙ m.there j k) in
    let same : count_by (λ x. p (from (to x))) r ≡ count_by p r = count_same (λ x. p (from (to x))) p r (λ x h. (let w = range_has 0 n x h in let hi : x < 0 + n = w.1 in ap p (m.there x (omega arith)))) in
    omega (arith, less, more, same)
