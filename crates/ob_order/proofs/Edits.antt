-- A list with one item changed or one item more.
use Rattle.std.proofs.Common.{◌≡◌, ℕ, zero, suc, ◌+◌, ◌<◌, ◌≤◌, List, [], ◌∷◌, ◌++◌, take, get_or, length, Option, None, Some, option_map, slice_get, refl, sym, ap, ◌∙◌, inl, inr, ◌⊎◌, ⊎_elim, arith}
use Rattle.std.specs.Option.{option_or}
use Rattle.std.proofs.lemmas.List.{take_more}
use Rattle.ob_order.specs.Works.{Op, at_ticket, edit, edit_index, write_of, last_write}

pub slice_get-edit_same : {A : Type 0} (f : A → A) (xs : List A) (n : ℕ) → slice_get (edit_index f xs n) n ≡ option_map f (slice_get xs n)
slice_get-edit_same f [] n = refl
slice_get-edit_same f (x ∷ xs) zero = refl
slice_get-edit_same f (x ∷ xs) (suc n) = slice_get-edit_same f xs n

pub slice_get-edit_other : {A : Type 0} (f : A → A) (xs : List A) (n u : ℕ) → (u ≡ n → ⊥) → slice_get (edit_index f xs n) u ≡ slice_get xs u
slice_get-edit_other f [] n u h = refl
slice_get-edit_other f (x ∷ xs) zero zero h = absurd (h refl)
slice_get-edit_other f (x ∷ xs) zero (suc u) h = refl
slice_get-edit_other f (x ∷ xs) (suc n) zero h = refl
slice_get-edit_other f (x ∷ xs) (suc n) (suc u) h = slice_get-edit_other f xs n u (λ e. h (ap suc e))

pub length-edit_index : {A : Type 0} (f : A → A) (xs : List A) (n : ℕ) → length (edit_index f xs n) ≡ length xs
length-edit_index f [] n = refl
length-edit_index f (x ∷ xs) zero = refl
length-edit_index f (x ∷ xs) (suc n) = ap suc (length-edit_index f xs n)

pub length-edit : {A : Type 0} (f : A → A) (xs : List A) (t : ℕ) → length (edit f xs t) ≡ length xs
length-edit f xs zero = refl
length-edit f xs (suc n) = length-edit_index f xs n

pub at_edit_other : {A : Type 0} (f : A → A) (xs : List A) (t u : ℕ) → (u ≡ t → ⊥) → at_ticket (edit f xs t) u ≡ at_ticket xs u
at_edit_other f xs zero u h = refl
at_edit_other f xs (suc n) zero h = refl
at_edit_other f xs (suc n) (suc u) h = slice_get-edit_other f xs n u (λ e. h (ap suc e))

pub at_edit_same : {A : Type 0} (f : A → A) (xs : List A) (t : ℕ) → at_ticket (edit f xs t) t ≡ option_map f (at_ticket xs t)
at_edit_same f xs zero = refl
at_edit_same f xs (suc n) = slice_get-edit_same f xs n

-- the item at n of a list with one more at its end
pub slice_get-push : {A : Type 0} (xs : List A) (y : A) (n : ℕ) → (slice_get (xs ++ y ∷ []) n ≡ slice_get xs n) ⊎ ((n ≡ length xs) × (slice_get xs n ≡ None) × (slice_get (xs ++ y ∷ []) n ≡ Some y))
slice_get-push [] y zero = inr (refl, refl, refl)
slice_get-push [] y (suc n) = inl refl
slice_get-push (x ∷ xs) y zero = inl refl
slice_get-push (x ∷ xs) y (suc n) = ⊎_elim (λ same. inl same) (λ last. inr (ap suc last.0, last.1, last.2)) (slice_get-push xs y n)

pub take-push : {A : Type 0} (xs : List A) (y : A) (n : ℕ) → n ≤ length xs → take n (xs ++ y ∷ []) ≡ take n xs
take-push xs y zero l = refl
take-push [] y (suc n) l = absurd (omega arith)
take-push (x ∷ xs) y (suc n) l = ap (λ ys. x ∷ ys) (take-push xs y n (omega arith))

pub last_write-push : (os : List (Op ℕ)) (o : Op ℕ) (k : ℕ) → last_write (os ++ o ∷ []) k ≡ option_or (write_of o k) (last_write os k)
last_write-push [] o k = none_or (write_of o k)
  where
    none_or : {A : Type 0} (a : Option A) → option_or None a ≡ option_or a None
    none_or None = refl
    none_or (Some x) = refl
last_write-push (p ∷ os) o k = ap (λ a. option_or a (write_of p k)) (last_write-push os o k) ∙ or_assoc (write_of o k) (last_write os k) (write_of p k)
  where
    or_assoc : {A : Type 0} (a b c : Option A) → option_or (option_or a b) c ≡ option_or a (option_or b c)
    or_assoc None b c = refl
    or_assoc (Some x) b c = refl

-- one more operation, for a loop over them
pub last_write_more : (os : List (Op ℕ)) (i k : ℕ) (o : Op ℕ) → i < length os → o ≡ get_or os i o → last_write (take (i + 1) os) k ≡ option_or (write_of o k) (last_write (take i os) k)
last_write_more os i k o l e = ap (λ x. last_write x k) (take_more os i o l ∙ ap (λ x. take i os ++ x ∷ []) (sym e)) ∙ last_write-push (take i os) o k
