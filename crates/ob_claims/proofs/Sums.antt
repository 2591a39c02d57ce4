-- Sums over the views of seats, one of which changes.
use Rattle.std.proofs.Common.{◌≡◌, ℕ, zero, suc, ◌+◌, ◌<◌, ◌≤◌, List, [], ◌∷◌, length, get_or, set, refl, ap, sym, subst, arith}
use Rattle.std.specs.List.{All, sum_by}
use Rattle.std.proofs.lemmas.List.Elements.{All-head, All-tail}
use Rattle.std.proofs.lemmas.List.Sums.{sum_by-cons, sum_by-set, get_or-le-sum_by}
use mathlib.Core.Option.{some, some-injective, some-ne-none}
use lib.ListN.{get_elem?}

module _ {V : Type 0} where
  pub at_length : (xs : List V) (i : ℕ) (v : V) → get_elem? xs i ≡ some v → i < length xs
  at_length [] i v e = absurd (some-ne-none v (sym e))
  at_length (x ∷ xs) zero v e = omega arith
  at_length (x ∷ xs) (suc i) v e = let h = at_length xs i v e in omega (arith, h)

  at_get : (xs : List V) (i : ℕ) (v : V) → get_elem? xs i ≡ some v → get_or xs i v ≡ v
  at_get [] i v e = absurd (some-ne-none v (sym e))
  at_get (x ∷ xs) zero v e = some-injective x v e
  at_get (x ∷ xs) (suc i) v e = at_get xs i v e

  -- what holds of all holds of each
  pub of_all : (P : V → Type 0) (xs : List V) (i : ℕ) (v : V) → All P xs → get_elem? xs i ≡ some v → P v
  of_all P xs i v all e = subst P (at_get xs i v e) (all i v (at_length xs i v e))

  pub sum_set : (f : V → ℕ) (xs : List V) (i : ℕ) (v w : V) → get_elem? xs i ≡ some v → sum_by f (set xs i w) + f v ≡ sum_by f xs + f w
  sum_set f xs i v w e =
      let changed = sum_by-set f xs i w v (at_length xs i v e) in
      let same : f (get_or xs i v) ≡ f v = ap f (at_get xs i v e) in
      omega (arith, changed, same)

  pub sum_at : (f : V → ℕ) (xs : List V) (i : ℕ) (v : V) → get_elem? xs i ≡ some v → f v ≤ sum_by f xs
  sum_at f xs i v e =
      let one = get_or-le-sum_by f xs i v (at_length xs i v e) in
      let same : f (get_or xs i v) ≡ f v = ap f (at_get xs i v e) in
      omega (arith, one, same)

  pub sum_under : (f g : V → ℕ) (xs : List V) → All (λ v. f v ≤ g v) xs → sum_by f xs ≤ sum_by g xs
  sum_under f g [] h = omega arith
  sum_under f g (x ∷ xs) h =
      let first = sum_by-cons f x xs in
      let second = sum_by-cons g x xs in
      let here : f x ≤ g x = All-head (λ v. f v ≤ g v) x xs h in
      let rest = sum_under f g xs (All-tail (λ v. f v ≤ g v) x xs h) in
      omega (arith, first, second, here, rest)

  pub sum_none : (f : V → ℕ) (xs : List V) → All (λ v. f v ≡ 0) xs → sum_by f xs ≡ 0
  sum_none f [] h = refl
  sum_none f (x ∷ xs) h =
      let all = sum_by-cons f x xs in
      let here : f x ≡ 0 = All-head (λ v. f v ≡ 0) x xs h in
      let rest = sum_none f xs (All-tail (λ v. f v ≡ 0) x xs h) in
      omega (arith, all, here, rest)

  -- where one has all, the others have none
  pub others_none : (f : V → ℕ) (xs : List V) (i : ℕ) (v w : V) → get_elem? xs i ≡ some v → f v ≡ sum_by f xs → f w ≡ 0 → All (λ u. f u ≡ 0) (set xs i w)
  others_none f xs i v w e all none k d lt =
      let changed = sum_set f xs i v w e in
      let one = get_or-le-sum_by f (set xs i w) k d lt in
      omega (arith, changed, one, all, none)
