-- Numbers of seats, added up, and numbers that only one seat has.
use Rattle.std.proofs.Common.{◌≡◌, ◌≢◌, ℕ, zero, suc, ◌+◌, ◌≤◌, List, [], ◌∷◌, ◌++◌, length, set, refl, ap, sym, ◌∙◌, subst, arith, inl, inr, ⊎_elim, ◌⊎◌}
use mathlib.Core.Option.{some, some-injective, some-ne-none}
use lib.ListN.{get_elem?}
use Rattle.atomic_table.proofs.Lists.{at_set}
use Rattle.ob_turn.specs.TurnRule.{total, Unique}

module _ {V : Type 0} where
  pub total_set : (f : V → ℕ) (views : List V) (i : ℕ) (v w : V) → get_elem? views i ≡ some v → total f (set views i w) + f v ≡ total f views + f w
  total_set f [] i v w e = absurd (some-ne-none v (sym e))
  total_set f (x ∷ xs) zero v w e = let same : f x ≡ f v = ap f (some-injective x v e) in omega (arith, same)
  total_set f (x ∷ xs) (suc i) v w e = let h = total_set f xs i v w e in omega (arith, h)

  pub total_snoc : (f : V → ℕ) (views : List V) (w : V) → total f (views ++ w ∷ []) ≡ total f views + f w
  total_snoc f [] w = omega arith
  total_snoc f (x ∷ xs) w = let h = total_snoc f xs w in omega (arith, h)

  pub total_at : (f : V → ℕ) (views : List V) (i : ℕ) (v : V) → get_elem? views i ≡ some v → f v ≤ total f views
  total_at f [] i v e = absurd (some-ne-none v (sym e))
  total_at f (x ∷ xs) zero v e = let same : f x ≡ f v = ap f (some-injective x v e) in omega (arith, same)
  total_at f (x ∷ xs) (suc i) v e = let h = total_at f xs i v e in omega (arith, h)

  pub total_le : (f g : V → ℕ) (views : List V) → ((i : ℕ) (v : V) → get_elem? views i ≡ some v → f v ≤ g v) → total f views ≤ total g views
  total_le f g [] h = omega arith
  total_le f g (x ∷ xs) h = let a = h zero x refl in let b = total_le f g xs (λ i v e. h (suc i) v e) in omega (arith, a, b)

  pub set_there : (views : List V) (i : ℕ) (v w : V) → get_elem? views i ≡ some v → get_elem? (set views i w) i ≡ some w
  set_there [] i v w e = absurd (some-ne-none v (sym e))
  set_there (x ∷ xs) zero v w e = refl
  set_there (x ∷ xs) (suc i) v w e = set_there xs i v w e

  -- what holds of each seat, with its number, after one of them changed
  pub stay : (P : ℕ → V → Type 0) (views : List V) (id : ℕ) (w : V) → P id w → ((j : ℕ) (v : V) → j ≢ id → get_elem? views j ≡ some v → P j v)
      → (j : ℕ) (v : V) → get_elem? (set views id w) j ≡ some v → P j v
  stay P views id w mine rest j v e = ⊎_elim
      (λ (t : (j ≡ id) × (w ≡ v)). subst (P j) t.1 (subst (λ (k : ℕ). P k w) (sym t.0) mine))
      (λ (t : (j ≢ id) × (get_elem? views j ≡ some v)). rest j v t.0 t.1)
      (at_set views id j w v e)

  pub unique_set : (R : V → ℕ → Type 0) (views : List V) (id : ℕ) (w : V) → Unique R views → ((k j : ℕ) (u : V) → R w k → j ≢ id → get_elem? views j ≡ some u → R u k → ⊥)
      → Unique R (set views id w)
  unique_set R views id w old new i j k a b ati atj ra rb = ⊎_elim
      (λ (t : (i ≡ id) × (w ≡ a)). ⊎_elim
      (λ (u : (j ≡ id) × (w ≡ b)). t.0 ∙ sym u.0)
      (λ (u : (j ≢ id) × (get_elem? views j ≡ some b)). absurd (new k j b (subst (λ (z : V). R z k) (sym t.1) ra) u.0 u.1 rb))
      (at_set views id j w b atj))
      (λ (t : (i ≢ id) × (get_elem? views i ≡ some a)). ⊎_elim
      (λ (u : (j ≡ id) × (w ≡ b)). absurd (new k i a (subst (λ (z : V). R z k) (sym u.1) rb) t.0 t.1 ra))
      (λ (u : (j ≢ id) × (get_elem? views j ≡ some b)). old i j k a b t.1 u.1 ra rb)
      (at_set views id j w b atj))
      (at_set views id i w a ati)

  -- the seat keeps the number that it has
  pub unique_same : (R : V → ℕ → Type 0) (views : List V) (id : ℕ) (v w : V) → Unique R views → get_elem? views id ≡ some v → ((k : ℕ) → R w k → R v k) → Unique R (set views id w)
  unique_same R views id v w old at same = unique_set R views id w old (λ k j u rw jne atj ru. jne (old j id k u v atj at ru (same k rw)))

  pub at_end : (views : List V) (w v : V) (j : ℕ) → get_elem? (views ++ w ∷ []) j ≡ some v → (get_elem? views j ≡ some v) ⊎ ((j ≡ length views) × (w ≡ v))
  at_end [] w v zero e = inr (refl, some-injective w v e)
  at_end [] w v (suc j) e = absurd (some-ne-none v (sym e))
  at_end (x ∷ xs) w v zero e = inl e
  at_end (x ∷ xs) w v (suc j) e = ⊎_elim (λ a. inl a) (λ t. inr (ap suc t.0, t.1)) (at_end xs w v j e)

  pub stay_longer : (P : ℕ → V → Type 0) (views : List V) (w : V) → ((j : ℕ) (v : V) → get_elem? views j ≡ some v → P j v) → P (length views) w
      → (j : ℕ) (v : V) → get_elem? (views ++ w ∷ []) j ≡ some v → P j v
  stay_longer P views w old new j v e = ⊎_elim (λ a. old j v a) (λ (t : (j ≡ length views) × (w ≡ v)). subst (P j) t.1 (subst (λ (k : ℕ). P k w) (sym t.0) new)) (at_end views w v j e)

  pub unique_longer : (R : V → ℕ → Type 0) (views : List V) (w : V) → Unique R views → ((k j : ℕ) (u : V) → R w k → get_elem? views j ≡ some u → R u k → ⊥) → Unique R (views ++ w ∷ [])
  unique_longer R views w old new i j k a b ati atj ra rb = ⊎_elim
      (λ p. ⊎_elim (λ q. old i j k a b p q ra rb) (λ (t : (j ≡ length views) × (w ≡ b)). absurd (new k i a (subst (λ (z : V). R z k) (sym t.1) rb) p ra)) (at_end views w b j atj))
      (λ (t : (i ≡ length views) × (w ≡ a)). ⊎_elim (λ q. absurd (new k j b (subst (λ (z : V). R z k) (sym t.1) ra) q rb)) (λ (u : (j ≡ length views) × (w ≡ b)). t.0 ∙ sym u.0) (at_end views w b j atj))
      (at_end views w a i ati)

  pub total_two : (f : V → ℕ) (views : List V) (i j : ℕ) (v u : V) → i ≢ j → get_elem? views i ≡ some v → get_elem? views j ≡ some u → f v + f u ≤ total f views
  total_two f [] i j v u ne a b = absurd (some-ne-none v (sym a))
  total_two f (x ∷ xs) zero zero v u ne a b = absurd (ne refl)
  total_two f (x ∷ xs) zero (suc j) v u ne a b = let same : f x ≡ f v = ap f (some-injective x v a) in let h = total_at f xs j u b in omega (arith, same, h)
  total_two f (x ∷ xs) (suc i) zero v u ne a b = let same : f x ≡ f u = ap f (some-injective x u b) in let h = total_at f xs i v a in omega (arith, same, h)
  total_two f (x ∷ xs) (suc i) (suc j) v u ne a b = let h = total_two f xs i j v u (λ e. ne (ap suc e)) a b in omega (arith, h)

  pub at_append : (xs ys : List V) (j : ℕ) (v : V) → get_elem? (xs ++ ys) j ≡ some v → ((i : ℕ) × (get_elem? xs i ≡ some v)) ⊎ ((i : ℕ) × (get_elem? ys i ≡ some v))
  at_append [] ys j v e = inr (j, e)
  at_append (x ∷ xs) ys zero v e = inl (zero, e)
  at_append (x ∷ xs) ys (suc j) v e = ⊎_elim (λ t. inl (suc t.0, t.1)) (λ t. inr t) (at_append xs ys j v e)
