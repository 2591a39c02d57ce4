-- Counting in a range of numbers.
use Rattle.std.specs.Prelude.{◌≡◌, ◌≢◌, ℕ, ◌+◌, ◌<◌, ◌==◌, Bool, false, cond, ◌||◌}
use Rattle.std.specs.List.{count_by, range_with_len}
use Rattle.std.proofs.Common.{zero, suc, add-one, arith, refl, sym, inl, inr}
use Rattle.std.proofs.lemmas.Bool.{cases_eq, eq-eqb, ne_eqb}
use Rattle.ob_tables.proofs.Counting.{count_by-range_more}

-- two tests that agree in a range count alike there
pub count_by-range_agree : (p q : ℕ → Bool) (n : ℕ) → ((j : ℕ) → j < n → p j ≡ q j) → count_by p (range_with_len 0 n) ≡ count_by q (range_with_len 0 n)
count_by-range_agree p q zero h = refl
count_by-range_agree p q (suc n) h =
    let e : count_by p (range_with_len 0 (n + 1)) ≡ count_by q (range_with_len 0 (n + 1)) =
    rw (count_by-range_more p n, count_by-range_more q n, h n (omega arith), count_by-range_agree p q n (λ j k. h j (omega arith))) refl in
    rw add-one at e

mark_step : (p : ℕ → Bool) (n j a b : ℕ) → j < suc n → p j ≡ false → ((j < n) → a ≡ b + 1) → (j ≡ n → a ≡ b) → a + cond ((n == j) || p n) 1 0 ≡ (b + cond (p n) 1 0) + 1
mark_step p n j a b h off below at = elim (cases_eq n j) [
  | inl e ↦ (let off : p n ≡ false = rw e off in rw (off, eq-eqb n j e) (omega (arith, at (sym e))))
  | inr ne ↦ rw (ne_eqb n j ne) (omega (arith, below (omega arith)))
]

eqb_off : (i j : ℕ) (b : Bool) → i ≢ j → ((i == j) || b) ≡ b
eqb_off i j b h = rw (ne_eqb i j h) refl

-- one number more passes
pub count_by-range_mark : (p : ℕ → Bool) (n j : ℕ) → j < n → p j ≡ false → count_by (λ i. (i == j) || p i) (range_with_len 0 n) ≡ count_by p (range_with_len 0 n) + 1
count_by-range_mark p zero j h off = absurd (omega arith)
count_by-range_mark p (suc n) j h off =
    let q : ℕ → Bool = λ i. (i == j) || p i in
    let e : count_by q (range_with_len 0 (n + 1)) ≡ count_by p (range_with_len 0 (n + 1)) + 1 =
    rw (count_by-range_more q n, count_by-range_more p n)
    (mark_step p n j (count_by q (range_with_len 0 n)) (count_by p (range_with_len 0 n)) h off (λ k. count_by-range_mark p n j k off)
    (λ at. count_by-range_agree q p n (λ i k. eqb_off i j (p i) (omega arith)))) in
    rw add-one at e
