-- Rows side by side, whose names are equal.
use Rattle.std.specs.Prelude.{◌≡◌, Bool, true, cond, List, [], ◌∷◌, ◌++◌, map, filter, length}
use Rattle.std.proofs.Common.{refl, sym, ap, subst, ◌∙◌, inl, inr, arith}
use Rattle.std.proofs.lemmas.Bool.{cases_Bool}
use Rattle.ob_base.specs.Repeats.{Has}
use Rattle.ob_deniable.proofs.Swaps.{turned, side_by_side}

module _ {A : Type 0} where
  pub cons_head : (x y : A) (xs ys : List A) → x ∷ xs ≡ y ∷ ys → x ≡ y
  cons_head x y xs ys e = cc

  pub cons_tail : (x y : A) (xs ys : List A) → x ∷ xs ≡ y ∷ ys → xs ≡ ys
  cons_tail x y xs ys e = cc

  pub nil_cons : (x : A) (xs : List A) → [] ≡ x ∷ xs → ⊥
  nil_cons x xs e = cc

  pub has_filter : (t : A → Bool) (xs : List A) (x : A) → Has (filter t xs) x → Has xs x × (t x ≡ true)
  has_filter t [] x h = absurd h
  has_filter t (y ∷ xs) x h = elim (cases_Bool (t y)) [
    | inl on ↦ (
        let at : Has (y ∷ filter t xs) x = subst (λ (b : Bool). Has (cond b (y ∷ filter t xs) (filter t xs)) x) on h in
        elim at [
          | inl e ↦ (inl e, ap t (sym e) ∙ on)
          | inr k ↦ (let r = has_filter t xs x k in (inr r.0, r.1))
        ])
    | inr off ↦ (
        let at : Has (filter t xs) x = subst (λ (b : Bool). Has (cond b (y ∷ filter t xs) (filter t xs)) x) off h in
        let r = has_filter t xs x at in (inr r.0, r.1))
  ]

  pub filter_has : (t : A → Bool) (xs : List A) (x : A) → Has xs x → t x ≡ true → Has (filter t xs) x
  filter_has t [] x h on = absurd h
  filter_has t (y ∷ xs) x (inl e) on = subst (λ (b : Bool). Has (cond b (y ∷ filter t xs) (filter t xs)) x) (sym (ap t e ∙ on)) (inl e)
  filter_has t (y ∷ xs) x (inr h) on = elim (cases_Bool (t y)) [
    | inl up ↦ subst (λ (b : Bool). Has (cond b (y ∷ filter t xs) (filter t xs)) x) (sym up) (inr (filter_has t xs x h on))
    | inr off ↦ subst (λ (b : Bool). Has (cond b (y ∷ filter t xs) (filter t xs)) x) (sym off) (filter_has t xs x h on)
  ]

module _ {A : Type 0} {B : Type 0} (f : A → B) where
  pub has_mapped : (xs : List A) (y : B) → Has (map f xs) y → (x : A) × Has xs x × (f x ≡ y)
  has_mapped [] y h = absurd h
  has_mapped (x ∷ xs) y (inl e) = (x, inl refl, e)
  has_mapped (x ∷ xs) y (inr h) = let r = has_mapped xs y h in (r.0, inr r.1, r.2)

  pub mapped_has : (xs : List A) (x : A) → Has xs x → Has (map f xs) (f x)
  mapped_has [] x h = absurd h
  mapped_has (z ∷ xs) x (inl e) = inl (ap f e)
  mapped_has (z ∷ xs) x (inr h) = inr (mapped_has xs x h)

  -- rows of equal names: side by side each has the other's name
  pub names_paired : (xs ys : List A) → map f xs ≡ map f ys → (r : A × A) → Has (side_by_side xs ys) r → f r.0 ≡ f r.1
  names_paired [] ys e r h = absurd h
  names_paired (x ∷ xs) [] e r h = absurd h
  names_paired (x ∷ xs) (y ∷ ys) e r (inl s) = subst (λ (r : A × A). f r.0 ≡ f r.1) s (cons_head (f x) (f y) (map f xs) (map f ys) e)
  names_paired (x ∷ xs) (y ∷ ys) e r (inr h) = names_paired xs ys (cons_tail (f x) (f y) (map f xs) (map f ys) e) r h

-- rows of equal names that agree side by side are equal rows
pub rows_equal : {A : Type 0} {N : Type 0} {C : Type 0} (n : A → N) (f g : A → C) (xs ys : List A) → map n xs ≡ map n ys → ((r : A × A) → Has (side_by_side xs ys) r → f r.0 ≡ g r.1) → map f xs ≡ map g ys
rows_equal n f g [] [] e h = refl
rows_equal n f g [] (y ∷ ys) e h = absurd (nil_cons (n y) (map n ys) e)
rows_equal n f g (x ∷ xs) [] e h = absurd (nil_cons (n x) (map n xs) (sym e))
rows_equal n f g (x ∷ xs) (y ∷ ys) e h = λ i. h (x, y) (inl refl) i ∷ rows_equal n f g xs ys (cons_tail (n x) (n y) (map n xs) (map n ys) e) (λ r k. h r (inr k)) i

-- two rows and what each goes on with
pub rows_split : {A : Type 0} (xs ys us vs : List A) → length xs ≡ length ys → xs ++ us ≡ ys ++ vs → (xs ≡ ys) × (us ≡ vs)
rows_split [] [] us vs l e = (refl, e)
rows_split [] (y ∷ ys) us vs l e = absurd (omega arith)
rows_split (x ∷ xs) [] us vs l e = absurd (omega arith)
rows_split (x ∷ xs) (y ∷ ys) us vs l e =
    let rest = rows_split xs ys us vs (omega arith) (cons_tail x y (xs ++ us) (ys ++ vs) e) in
    (λ i. cons_head x y (xs ++ us) (ys ++ vs) e i ∷ rest.0 i, rest.1)

-- the right of each left, turned round
pub turned_paired : {A : Type 0} {B : Type 0} (f : A → B) (xs ys : List A) → turned (map (λ (r : A × A). (f r.0, f r.1)) (side_by_side xs ys)) ≡ map (λ (r : A × A). (f r.0, f r.1)) (side_by_side ys xs)
turned_paired f [] [] = refl
turned_paired f [] (y ∷ ys) = refl
turned_paired f (x ∷ xs) [] = refl
turned_paired f (x ∷ xs) (y ∷ ys) = ap (λ l. (f y, f x) ∷ l) (turned_paired f xs ys)
