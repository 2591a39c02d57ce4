-- What holds of each item of a list, and of each two at one place of two lists.
use Rattle.std.proofs.Common.{◌≡◌, ◌<◌, ℕ, zero, suc, List, [], ◌∷◌, ◌++◌, length, get_or, refl, ap, arith}

abbrev pub Each : {A : Type 0} → (A → Type 0) → List A → Type 0
Each P [] = Unit {0}
Each P (x ∷ xs) = P x × Each P xs

pub each_at : {A : Type 0} (P : A → Type 0) (xs : List A) → ((i : ℕ) (d : A) → i < length xs → P (get_or xs i d)) → Each P xs
each_at P [] h = tt
each_at P (x ∷ xs) h = (h zero x (omega arith), each_at P xs (λ i d lt. h (suc i) d (omega (arith, lt))))

pub at_each : {A : Type 0} (P : A → Type 0) (xs : List A) → Each P xs → (i : ℕ) (d : A) → i < length xs → P (get_or xs i d)
at_each P [] e i d lt = absurd (omega (arith, lt))
at_each P (x ∷ xs) e zero d lt = e.0
at_each P (x ∷ xs) e (suc i) d lt = at_each P xs e.1 i d (omega (arith, lt))

pub each_append : {A : Type 0} (P : A → Type 0) (xs ys : List A) → Each P xs → Each P ys → Each P (xs ++ ys)
each_append P [] ys p q = q
each_append P (x ∷ xs) ys p q = (p.0, each_append P xs ys p.1 q)

pub each_front : {A : Type 0} (P : A → Type 0) (xs ys : List A) → Each P (xs ++ ys) → Each P xs
each_front P [] ys p = tt
each_front P (x ∷ xs) ys p = (p.0, each_front P xs ys p.1)

pub each_back : {A : Type 0} (P : A → Type 0) (xs ys : List A) → Each P (xs ++ ys) → Each P ys
each_back P [] ys p = p
each_back P (x ∷ xs) ys p = each_back P xs ys p.1

pub each_on : {A : Type 0} (P Q : A → Type 0) (xs : List A) → ((x : A) → P x → Q x) → Each P xs → Each Q xs
each_on P Q [] f p = tt
each_on P Q (x ∷ xs) f p = (f x p.0, each_on P Q xs f p.1)

-- lists of one length, whose items stand so to one another
abbrev pub Pairs : {A B : Type 0} → (A → B → Type 0) → List A → List B → Type 0
Pairs R [] [] = Unit {0}
Pairs R [] (y ∷ ys) = ⊥
Pairs R (x ∷ xs) [] = ⊥
Pairs R (x ∷ xs) (y ∷ ys) = R x y × Pairs R xs ys

pub pairs_at : {A : Type 0} (R : A → A → Type 0) (xs ys : List A) → length ys ≡ length xs → ((i : ℕ) (d : A) → i < length xs → R (get_or xs i d) (get_or ys i d)) → Pairs R xs ys
pairs_at R [] [] e h = tt
pairs_at R [] (y ∷ ys) e h = absurd (omega (arith, e))
pairs_at R (x ∷ xs) [] e h = absurd (omega (arith, e))
pairs_at R (x ∷ xs) (y ∷ ys) e h = (h zero x (omega arith), pairs_at R xs ys (omega (arith, e)) (λ i d lt. h (suc i) d (omega (arith, lt))))

pub at_pairs : {A : Type 0} (R : A → A → Type 0) (xs ys : List A) → Pairs R xs ys → (i : ℕ) (d : A) → i < length xs → R (get_or xs i d) (get_or ys i d)
at_pairs R [] ys p i d lt = absurd (omega (arith, lt))
at_pairs R (x ∷ xs) [] p i d lt = absurd p
at_pairs R (x ∷ xs) (y ∷ ys) p zero d lt = p.0
at_pairs R (x ∷ xs) (y ∷ ys) p (suc i) d lt = at_pairs R xs ys p.1 i d (omega (arith, lt))

pub pairs_length : {A B : Type 0} (R : A → B → Type 0) (xs : List A) (ys : List B) → Pairs R xs ys → length ys ≡ length xs
pairs_length R [] [] p = refl
pairs_length R [] (y ∷ ys) p = absurd p
pairs_length R (x ∷ xs) [] p = absurd p
pairs_length R (x ∷ xs) (y ∷ ys) p = ap suc (pairs_length R xs ys p.1)

pub pairs_append : {A B : Type 0} (R : A → B → Type 0) (xs us : List A) (ys vs : List B) → Pairs R xs ys → Pairs R us vs → Pairs R (xs ++ us) (ys ++ vs)
pairs_append R [] us [] vs p q = q
pairs_append R [] us (y ∷ ys) vs p q = absurd p
pairs_append R (x ∷ xs) us [] vs p q = absurd p
pairs_append R (x ∷ xs) us (y ∷ ys) vs p q = (p.0, pairs_append R xs us ys vs p.1 q)

-- what holds of the first of two that stand so holds of the second
pub pairs_each : {A B : Type 0} (R : A → B → Type 0) (P : A → Type 0) (Q : B → Type 0) (xs : List A) (ys : List B) → ((x : A) (y : B) → R x y → P x → Q y) → Pairs R xs ys → Each P xs → Each Q ys
pairs_each R P Q [] [] f p e = tt
pairs_each R P Q [] (y ∷ ys) f p e = absurd p
pairs_each R P Q (x ∷ xs) [] f p e = absurd p
pairs_each R P Q (x ∷ xs) (y ∷ ys) f p e = (f x y p.0 e.0, pairs_each R P Q xs ys f p.1 e.1)
