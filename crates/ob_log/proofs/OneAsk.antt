-- Places of which only the first asks.
use Rattle.std.proofs.Common.{◌≡◌, ℕ, zero, suc, ◌<◌, List, ◌∷◌, Option, Some, None, take, get_or, refl, sym, ap, ◌∙◌, subst}
use Rattle.std.specs.Prelude.{IfSome, replicate}

none_in : (n m i : ℕ) → get_or (take n (replicate {A = Option ℕ} m None)) i None ≡ None
none_in zero m i = refl
none_in (suc n) zero i = refl
none_in (suc n) (suc m) zero = refl
none_in (suc n) (suc m) (suc i) = none_in n m i

none≢some : (k : ℕ) → ◌≡◌ {A = Option ℕ} None (Some k) → ⊥
none≢some k e = cc

at_first : (one : Option ℕ) (n m i k : ℕ) → get_or (take n (one ∷ replicate m None)) i None ≡ Some k → (i ≡ 0) × (one ≡ Some k)
at_first one zero m i k e = absurd (none≢some k e)
at_first one (suc n) m zero k e = (refl, e)
at_first one (suc n) m (suc i) k e = absurd (none≢some k (sym (none_in n m i) ∙ e))

module _ (one : Option ℕ) (n m : ℕ) (asks all : List (Option ℕ)) (is : asks ≡ take n all) (all_are : all ≡ one ∷ replicate m None) where
  first_at : (i k : ℕ) → get_or asks i None ≡ Some k → (i ≡ 0) × (one ≡ Some k)
  first_at i k e = at_first one n m i k (sym (ap (λ (l : List (Option ℕ)). get_or l i None) (is ∙ ap (take n) all_are)) ∙ e)

  pub one_low : (most : ℕ) → IfSome one (λ key. key < most) → (i k : ℕ) → get_or asks i None ≡ Some k → k < most
  one_low most low i k e = subst (λ (o : Option ℕ). IfSome o (λ key. key < most)) (first_at i k e).1 low

  pub one_apart : (i j k : ℕ) → get_or asks i None ≡ Some k → get_or asks j None ≡ Some k → i ≡ j
  one_apart i j k one two = (first_at i k one).0 ∙ sym (first_at j k two).0
