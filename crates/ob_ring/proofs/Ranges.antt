-- Counting and searching in a range of numbers.
use Rattle.std.specs.Prelude.{◌≡◌, ℕ, ◌+◌, ◌<◌, ◌≤◌, Bool, true, false, cond, not, List, [], ◌∷◌, ◌++◌, length}
use Rattle.std.specs.declared.option.Option.TheVariants.{Some}
use Rattle.std.specs.List.{count_by, find, range_with_len, list_any}
use Rattle.std.proofs.Common.{zero, suc, arith, refl, ap, ◌∙◌, inl, inr, ◌⊎◌}
use Rattle.std.proofs.lemmas.Bool.{false≢true, cases_Bool, or_cases}
use Rattle.std.proofs.lemmas.List.Sums.{sum_by-append}
pub use Rattle.ob_tables.proofs.Ranges.{count_by-range_agree, count_by-range_mark}
use Rattle.ob_ring.proofs.Counts.{count_by-cons}

-- the first number of a range that isn't marked, or all of them are
pub find_unmarked : (q : ℕ → Bool) (a n : ℕ) → ((j : ℕ) × (find (λ i. not (q i)) (range_with_len a n) ≡ Some j) × (a ≤ j) × (j < a + n) × (q j ≡ false)) ⊎ (count_by q (range_with_len a n) ≡ n)
find_unmarked q a zero = inr refl
find_unmarked q a (suc n) = elim (cases_Bool (q a)) [
  | inl on ↦ elim (find_unmarked q (a + 1) n) [
    | inl f ↦ inl (f.0, rw on f.1, (let h : a + 1 ≤ f.0 = f.2 in omega arith), (let h : f.0 < (a + 1) + n = f.3 in omega arith), f.4)
    | inr all ↦ inr (count_by-cons q a (range_with_len (a + 1) n) ∙ rw on (omega arith))
  ]
  | inr off ↦ inl (a, rw off refl, omega arith, omega arith, off)
]

pub range-append : (a m n : ℕ) → range_with_len a (m + n) ≡ range_with_len a m ++ range_with_len (a + m) n
range-append a zero n = let e : zero + n ≡ n = omega arith in let f : a + zero ≡ a = omega arith in rw (e, f) refl
range-append a (suc m) n =
    let e : suc m + n ≡ suc (m + n) = omega arith in
    let f : a + suc m ≡ (a + 1) + m = omega arith in
    rw (e, f) (ap (λ xs. a ∷ xs) (range-append (a + 1) m n))

-- where fewer indexes are used than there are dummies, there is a lowest unread dummy
pub dummy_left : (q : ℕ → Bool) (z s : ℕ) → count_by q (range_with_len 0 (z + s)) < s → (j : ℕ) × (find (λ i. not (q i)) (range_with_len z s) ≡ Some j) × (z ≤ j) × (j < z + s) × (q j ≡ false)
dummy_left q z s few = elim (find_unmarked q z s) [
  | inl f ↦ f
  | inr all ↦ absurd (
      let parts : count_by q (range_with_len 0 (z + s)) ≡ count_by q (range_with_len 0 z) + count_by q (range_with_len (0 + z) s) =
      rw (range-append 0 z s) (sum_by-append (λ i. cond (q i) 1 0) (range_with_len 0 z) (range_with_len (0 + z) s)) in
      let e : 0 + z ≡ z = omega arith in
      let all' : count_by q (range_with_len (0 + z) s) ≡ s = rw e all in
      omega arith)
]

module _ {X : Type 0} where
  -- two tests share out what a third passes
  pub count_by-split : (a b c : X → Bool) → ((x : X) → ◌≡◌ {A = ℕ} (cond (a x) 1 0 + cond (b x) 1 0) (cond (c x) 1 0)) → (xs : List X) → count_by a xs + count_by b xs ≡ count_by c xs
  count_by-split a b c h [] = refl
  count_by-split a b c h (x ∷ xs) = omega (arith, count_by-cons a x xs, count_by-cons b x xs, count_by-cons c x xs, h x, count_by-split a b c h xs)

  pub count_by_all : (xs : List X) → count_by (λ x. true) xs ≡ length xs
  count_by_all [] = refl
  count_by_all (x ∷ xs) = omega (arith, count_by-cons (λ y. true) x xs, count_by_all xs)

  -- what passes some element's test
  pub list_any_at : (p : X → Bool) (xs : List X) → list_any p xs ≡ true → (x : X) × (p x ≡ true)
  list_any_at p [] e = absurd (false≢true e)
  list_any_at p (x ∷ xs) e = elim (or_cases (p x) (list_any p xs) e) [ inl h ↦ (x, h) | inr t ↦ list_any_at p xs t ]
