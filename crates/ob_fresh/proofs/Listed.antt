-- Elements of lists, and places in them.
use Rattle.std.specs.Prelude.{◌≡◌, ℕ, ◌+◌, ◌*◌, ◌<◌, ◌≤◌, ◌==◌, true, List, [], ◌∷◌, map}
use Rattle.std.specs.List.{range_with_len, position_or_len}
use Rattle.std.proofs.Common.{zero, suc, arith, refl, sym, ap, ◌∙◌, inl, inr}
use Rattle.std.proofs.Math.Nat.{mul-le-mul_right}
use Rattle.std.proofs.lemmas.Bool.{false≢true, true≢false, cases_Bool, cases_lt, eqb-true, eq-eqb, or_cases, or_left, or_right}
use Rattle.ob_base.specs.Repeats.{Has}
use Rattle.ob_base.specs.Tree.{below}
use Rattle.ob_schedule.specs.Paths.{is_one_of}
use Rattle.ob_tables.specs.Rank.{IsRanking}

module _ {A : Type 0} {B : Type 0} (f : A → B) where
  pub has_mapped : (xs : List A) (y : B) → Has (map f xs) y → (x : A) × Has xs x × (f x ≡ y)
  has_mapped [] y h = absurd h
  has_mapped (x ∷ xs) y (inl e) = (x, inl refl, e)
  has_mapped (x ∷ xs) y (inr h) = let r = has_mapped xs y h in (r.0, inr r.1, r.2)

  pub mapped_has : (xs : List A) (x : A) → Has xs x → Has (map f xs) (f x)
  mapped_has [] x h = absurd h
  mapped_has (z ∷ xs) x (inl e) = inl (ap f e)
  mapped_has (z ∷ xs) x (inr h) = inr (mapped_has xs x h)

pub one_has : (us : List ℕ) (u : ℕ) → is_one_of us u ≡ true → Has us u
one_has [] u e = absurd (false≢true e)
one_has (v ∷ us) u e = elim (or_cases (v == u) (is_one_of us u) e) [
  | inl here ↦ inl (eqb-true v u here)
  | inr there ↦ inr (one_has us u there)
]

pub has_one : (us : List ℕ) (u : ℕ) → Has us u → is_one_of us u ≡ true
has_one [] u h = absurd h
has_one (v ∷ us) u (inl e) = or_left (v == u) (is_one_of us u) (eq-eqb v u e)
has_one (v ∷ us) u (inr h) = or_right (v == u) (is_one_of us u) (has_one us u h)

pub has_range : (a n u : ℕ) → a ≤ u → u < a + n → Has (range_with_len a n) u
has_range a zero u low high = absurd (omega arith)
has_range a (suc n) u low high = elim (cases_lt a u) [
  | inl above ↦ inr (has_range (a + 1) n u (omega arith) (omega arith))
  | inr at ↦ inl (omega arith)
]

pub range_has : (a n u : ℕ) → Has (range_with_len a n) u → (a ≤ u) × (u < a + n)
range_has a zero u h = absurd h
range_has a (suc n) u (inl e) = (omega arith, omega arith)
range_has a (suc n) u (inr h) = let r = range_has (a + 1) n u h in (omega (arith, r.0), omega (arith, r.1))

-- ---- places of different slots

lying_from : (n : ℕ) (slot : ℕ → ℕ) (a m j : ℕ) → IsRanking n slot → a + m ≡ n → a ≤ j → j < n → a + position_or_len (λ i. slot i == slot j) (range_with_len a m) ≡ j
lying_from n slot a zero j ranked all low high = absurd (omega arith)
lying_from n slot a (suc m) j ranked all low high = elim (cases_Bool (slot a == slot j)) [
  | inl on ↦ (
      let same : a ≡ j = ranked.apart a j (omega arith) high (eqb-true (slot a) (slot j) on) in
      rw on (omega arith))
  | inr off ↦ (
      let above : a < j = elim (cases_lt a j) [ inl lt ↦ lt | inr ge ↦ absurd (let same : a ≡ j = omega arith in true≢false (sym (eq-eqb (slot a) (slot j) (ap slot same)) ∙ off)) ] in
      rw off (omega (arith, lying_from n slot (a + 1) m j ranked (omega arith) (omega arith) high)))
]

-- the index that lies in an index's slot is that index
pub lying : (n : ℕ) (slot : ℕ → ℕ) (j : ℕ) → IsRanking n slot → j < n → position_or_len (λ i. slot i == slot j) (below n) ≡ j
lying n slot j ranked low = omega (arith, lying_from n slot 0 n j ranked (omega arith) (omega arith) low)

-- ---- rows of equal width, one behind the other

pub row_within : (i m w j : ℕ) → i < m → j < w → i * w + j < m * w
row_within i m w j lt low = let more : (i + 1) * w ≤ m * w = mul-le-mul_right w (omega arith) in omega arith

row_below : (i m w j k : ℕ) → i < m → j < w → i * w + j ≡ m * w + k → ⊥
row_below i m w j k lt low e = let more : (i + 1) * w ≤ m * w = mul-le-mul_right w (omega arith) in omega arith

pub rows_apart : (i m w j k : ℕ) → j < w → k < w → i * w + j ≡ m * w + k → i ≡ m
rows_apart i m w j k low low' e = elim (cases_lt i m) [
  | inl lt ↦ absurd (row_below i m w j k lt low e)
  | inr ge ↦ elim (cases_lt m i) [
    | inl gt ↦ absurd (row_below m i w k j gt low' (omega arith))
    | inr le ↦ omega arith
  ]
]
