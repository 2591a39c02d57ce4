-- The slots that the first of a list of ranks take.
use Rattle.std.specs.Prelude.{◌≡◌, ◌<◌, ◌≤◌, ℕ, ◌+◌, Bool, true, false, List, length, replicate, slice_index, slice_index_or, slice_set}
use Rattle.std.proofs.Common.{zero, suc, arith, refl, sym, ap, ◌∙◌, inl, inr, get_or-set_same, get_or-set_other}
use Rattle.std.proofs.lemmas.Bool.{true≢false, false≢true, cases_eq}
use Rattle.std.proofs.lemmas.List.{length-set}
use Rattle.ob_tables.specs.Version.{AreRanks}

pub record Taken (ranks : List ℕ) (taken : List Bool) (j : ℕ) : Type 0 where
  pub room : length ranks ≤ length taken
  pub low : (i : ℕ) → i < j → slice_index ranks i < length ranks
  pub is_taken : (i : ℕ) → i < j → slice_index_or taken (slice_index ranks i) false ≡ true
  pub taken_by : (s : ℕ) → slice_index_or taken s false ≡ true → (i : ℕ) × (i < j) × (slice_index ranks i ≡ s)
  pub apart : (i k : ℕ) → i < j → k < j → slice_index ranks i ≡ slice_index ranks k → i ≡ k

none_taken : (n s : ℕ) → slice_index_or (replicate n false) s false ≡ false
none_taken zero s = refl
none_taken (suc n) zero = refl
none_taken (suc n) (suc s) = none_taken n s

pub taken_none : (ranks : List ℕ) → length ranks ≤ 48 → Taken ranks (replicate 48 false) 0
taken_none ranks few = record {
  room = few;
  low = λ i a. absurd (omega arith);
  is_taken = λ i a. absurd (omega arith);
  taken_by = λ s e. absurd (false≢true (sym (none_taken 48 s) ∙ e));
  apart = λ i k a b e. absurd (omega arith);
}

pub taken_more : (ranks : List ℕ) (taken : List Bool) (j r : ℕ) → j < length ranks → r ≡ slice_index ranks j → r < length ranks → slice_index_or taken r false ≡ false
    → Taken ranks taken j → Taken ranks (slice_set taken r true) (j + 1)
taken_more ranks taken j r h is low free t = record {
  room = omega (arith, t.room, length-set taken r true);
  low = λ i a. elim (cases_eq i j) [
    | inl e ↦ (let z : slice_index ranks i ≡ r = ap (λ (n : ℕ). slice_index ranks n) e ∙ sym is in omega arith)
    | inr ne ↦ t.low i (omega arith)
  ];
  is_taken = λ i a. marked i a;
  taken_by = λ s e. by s e;
  apart = λ i k a b e. alone i k a b e;
}
  where
    before : (i : ℕ) → i < j → slice_index ranks i ≡ r → ⊥
    before i a e = absurd (true≢false (sym (t.is_taken i a) ∙ ap (λ (s : ℕ). slice_index_or taken s false) e ∙ free))

    marked : (i : ℕ) → i < j + 1 → slice_index_or (slice_set taken r true) (slice_index ranks i) false ≡ true
    marked i a = elim (cases_eq i j) [
      | inl e ↦ (let z : slice_index ranks i ≡ r = ap (λ (n : ℕ). slice_index ranks n) e ∙ sym is in ap (λ (s : ℕ). slice_index_or (slice_set taken r true) s false) z ∙ get_or-set_same taken r true false (omega (arith, t.room)))
      | inr ne ↦ get_or-set_other taken r (slice_index ranks i) true false (before i (omega arith)) ∙ t.is_taken i (omega arith)
    ]

    by : (s : ℕ) → slice_index_or (slice_set taken r true) s false ≡ true → (i : ℕ) × (i < j + 1) × (slice_index ranks i ≡ s)
    by s e = elim (cases_eq s r) [
      | inl same ↦ (j, omega arith, sym is ∙ sym same)
      | inr ne ↦ (let f : (i : ℕ) × (i < j) × (slice_index ranks i ≡ s) = t.taken_by s (sym (get_or-set_other taken r s true false ne) ∙ e) in (f.0, (let l : f.0 < j = f.1 in omega arith), f.2))
    ]

    alone : (i k : ℕ) → i < j + 1 → k < j + 1 → slice_index ranks i ≡ slice_index ranks k → i ≡ k
    alone i k a b e = elim (cases_eq i j) [
      | inl ei ↦ elim (cases_eq k j) [
        | inl ek ↦ ei ∙ sym ek
        | inr nk ↦ absurd (before k (omega arith) (sym e ∙ ap (λ (n : ℕ). slice_index ranks n) ei ∙ sym is))
      ]
      | inr ni ↦ elim (cases_eq k j) [
        | inl ek ↦ absurd (before i (omega arith) (e ∙ ap (λ (n : ℕ). slice_index ranks n) ek ∙ sym is))
        | inr nk ↦ t.apart i k (omega arith) (omega arith) e
      ]
    ]

pub taken_twice : (ranks : List ℕ) (taken : List Bool) (j r : ℕ) → j < length ranks → r ≡ slice_index ranks j → slice_index_or taken r false ≡ true → Taken ranks taken j → AreRanks ranks → ⊥
taken_twice ranks taken j r h is on t ok =
    let f : (i : ℕ) × (i < j) × (slice_index ranks i ≡ r) = t.taken_by r on in
    let l : f.0 < j = f.1 in
    let same : f.0 ≡ j = ok.apart f.0 j (omega arith) h (f.2 ∙ is) in omega arith

pub too_high : (ranks : List ℕ) (j r : ℕ) → j < length ranks → r ≡ slice_index ranks j → length ranks ≤ r → AreRanks ranks → ⊥
too_high ranks j r h is high ok = let low : slice_index ranks j < length ranks = ok.low j h in omega arith

pub taken_all : (ranks : List ℕ) (taken : List Bool) (j : ℕ) → length ranks ≤ j → Taken ranks taken j → AreRanks ranks
taken_all ranks taken j all t = record { low = λ i h. t.low i (omega arith); apart = λ i k h l e. t.apart i k (omega arith) (omega arith) e }
