-- Tests and lists over a range of numbers.
use Rattle.std.specs.Prelude.{◌≡◌, ◌<◌, ℕ, ◌+◌, Bool, true, false, ◌||◌, [], ◌∷◌, ◌++◌, map}
use Rattle.std.specs.List.{list_any}
use Rattle.std.proofs.Common.{zero, suc, arith, refl, sym, ap, ◌∙◌, inl, inr}
use Rattle.std.proofs.lemmas.Bool.{cases_eq}
use Rattle.std.proofs.lemmas.List.Folds.{list_any-append}
use Rattle.std.proofs.lemmas.List.{map-append}
use Rattle.ob_base.specs.Tree.{below}
use Rattle.ob_tables.proofs.VersionLaws.{range_up}

module _ {X : Type 0} (f : ℕ → X) where
  pub map_up : (n : ℕ) → map f (below (n + 1)) ≡ map f (below n) ++ f n ∷ []
  map_up n = ap (map f) (range_up n) ∙ map-append f (below n) (n ∷ [])

module _ {X : Type 0} (f : ℕ → X) (q : X → Bool) where
  any_up : (n : ℕ) → list_any q (map f (below (n + 1))) ≡ (list_any q (map f (below n)) || list_any q (f n ∷ []))
  any_up n = ap (list_any q) (map_up f n) ∙ list_any-append q (map f (below n)) (f n ∷ [])

  pub any_none : (n : ℕ) → list_any q (map f (below n)) ≡ false → q (f n) ≡ false → list_any q (map f (below (n + 1))) ≡ false
  any_none n before here = any_up n ∙ rw (before, here) refl

  pub any_at : (n i : ℕ) → i < n → q (f i) ≡ true → list_any q (map f (below n)) ≡ true
  any_at zero i lt on = absurd (omega arith)
  any_at (suc n) i lt on =
      let e : suc n ≡ n + 1 = omega arith in
      ap (λ m. list_any q (map f (below m))) e ∙ any_up n ∙ elim (cases_eq i n) [
        | inl same ↦ (let here : q (f n) ≡ true = ap (λ m. q (f m)) (sym same) ∙ on in rw here (or_true (list_any q (map f (below n)))))
        | inr ne ↦ rw (any_at n i (omega arith) on) refl
      ]
    where
      or_true : (b : Bool) → (b || true) ≡ true
      or_true true = refl
      or_true false = refl

  pub any_never : (n : ℕ) → ((i : ℕ) → i < n → q (f i) ≡ false) → list_any q (map f (below n)) ≡ false
  any_never zero off = refl
  any_never (suc n) off =
      let e : suc n ≡ n + 1 = omega arith in
      ap (λ m. list_any q (map f (below m))) e ∙ any_none n (any_never n (λ i lt. off i (omega arith))) (off n (omega arith))
