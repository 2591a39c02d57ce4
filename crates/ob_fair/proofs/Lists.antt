-- Lists all of whose items obey a rule, and lists without duplicates.
use Rattle.std.proofs.Common.{◌≡◌, ℕ, zero, suc, ◌≤◌, Bool, true, false, cond, ◌||◌, ◌==◌, List, [], ◌∷◌, ◌++◌, map, length, drop, Some, slice_get, refl, sym, ap, ◌∙◌, subst, arith, eqb-true, ne_eqb, eq-eqb}
use Rattle.std.specs.List.{list_any, find}
use Rattle.std.proofs.lemmas.Bool.{false≢true}
use Rattle.std.proofs.lemmas.Option.{none-some, same_Some}
use Rattle.ob_order.specs.Works.{edit, edit_index}

-- ---- rules

abbrev pub Each : {A : Type 0} → (A → Type 0) → List A → Type 0
Each P [] = Unit {0}
Each P (x ∷ xs) = P x × Each P xs

pub each_map : {A B : Type 0} (P : A → Type 0) (Q : B → Type 0) (f : A → B) → ((x : A) → P x → Q (f x)) → (xs : List A) → Each P xs → Each Q (map f xs)
each_map P Q f h [] all = all
each_map P Q f h (x ∷ xs) all = (h x all.0, each_map P Q f h xs all.1)

pub each_push : {A : Type 0} (P : A → Type 0) (xs : List A) (y : A) → Each P xs → P y → Each P (xs ++ y ∷ [])
each_push P [] y all one = (one, all)
each_push P (x ∷ xs) y all one = (all.0, each_push P xs y all.1 one)

each_index : {A : Type 0} (P : A → Type 0) (f : A → A) → ((x : A) → P x → P (f x)) → (xs : List A) (n : ℕ) → Each P xs → Each P (edit_index f xs n)
each_index P f h [] n all = all
each_index P f h (x ∷ xs) zero all = (h x all.0, all.1)
each_index P f h (x ∷ xs) (suc n) all = (all.0, each_index P f h xs n all.1)

pub each_edit : {A : Type 0} (P : A → Type 0) (f : A → A) → ((x : A) → P x → P (f x)) → (xs : List A) (t : ℕ) → Each P xs → Each P (edit f xs t)
each_edit P f h xs zero all = all
each_edit P f h xs (suc n) all = each_index P f h xs n all

pub each_at : {A : Type 0} (P : A → Type 0) (xs : List A) (n : ℕ) (x : A) → Each P xs → slice_get xs n ≡ Some x → P x
each_at P [] n x all e = absurd (none-some x e)
each_at P (y ∷ xs) zero x all e = subst_item P y x (same_Some y x e) all.0
  where
    subst_item : {A : Type 0} (P : A → Type 0) (y x : A) → y ≡ x → P y → P x
    subst_item P y x e p = subst P e p
each_at P (y ∷ xs) (suc n) x all e = each_at P xs n x all.1 e

pub each_found : {A : Type 0} (P : A → Type 0) (p : A → Bool) (xs : List A) (x : A) → Each P xs → find p xs ≡ Some x → P x
each_found P p [] x all e = absurd (none-some x e)
each_found P p (y ∷ xs) x all e = step (p y) (each_found P p xs x all.1) e
  where
    step : (b : Bool) → (find p xs ≡ Some x → P x) → cond b (Some y) (find p xs) ≡ Some x → P x
    step true rest q = subst P (same_Some y x q) all.0
    step false rest q = rest q

-- ---- membership

-- whether k is on the list
abbrev pub has : ℕ → List ℕ → Bool
has k xs = list_any (λ j. j == k) xs

pub or_false : (a b : Bool) → (a || b) ≡ false → (a ≡ false) × (b ≡ false)
or_false true b e = absurd (false≢true (sym e))
or_false false b e = (refl, e)

pub or_right : (a b : Bool) → b ≡ true → (a || b) ≡ true
or_right true b e = refl
or_right false b e = e

pub has_drop : (k n : ℕ) (xs : List ℕ) → has k (drop n xs) ≡ true → has k xs ≡ true
has_drop k zero xs e = e
has_drop k (suc n) [] e = e
has_drop k (suc n) (x ∷ xs) e = or_right (x == k) (has k xs) (has_drop k n xs e)

pub has_push : (k j : ℕ) (xs : List ℕ) → has k (xs ++ j ∷ []) ≡ (has k xs || (j == k))
has_push k j [] = either (j == k)
  where
    either : (b : Bool) → (b || false) ≡ b
    either true = refl
    either false = refl
has_push k j (x ∷ xs) = ap (λ b. (x == k) || b) (has_push k j xs) ∙ sym (apart (x == k) (has k xs) (j == k))
  where
    apart : (a b c : Bool) → ((a || b) || c) ≡ (a || (b || c))
    apart true b c = refl
    apart false b c = refl

-- ---- no duplicates

abbrev pub Once : List ℕ → Type 0
Once [] = Unit {0}
Once (x ∷ xs) = (has x xs ≡ false) × Once xs

pub once_drop : (n : ℕ) (xs : List ℕ) → Once xs → Once (drop n xs)
once_drop zero xs o = o
once_drop (suc n) [] o = o
once_drop (suc n) (x ∷ xs) o = once_drop n xs o.1

pub once_push : (k : ℕ) (xs : List ℕ) → has k xs ≡ false → Once xs → Once (xs ++ k ∷ [])
once_push k [] none o = (refl, o)
once_push k (x ∷ xs) none o = (has_push x k xs ∙ both (has x xs) (k == x) o.0 (ne_eqb k x (λ e. absurd (false≢true (sym (or_false (x == k) (has k xs) none).0 ∙ eq-eqb x k (sym e))))), once_push k xs (or_false (x == k) (has k xs) none).1 o.1)
  where
    both : (a b : Bool) → a ≡ false → b ≡ false → (a || b) ≡ false
    both true b e f = absurd (false≢true (sym e))
    both false b e f = f

-- without its first x
abbrev without : ℕ → List ℕ → List ℕ
without x [] = []
without x (y ∷ ys) = cond (y == x) ys (y ∷ without x ys)

shorter : (x : ℕ) (ys : List ℕ) → has x ys ≡ true → length ys ≡ suc (length (without x ys))
shorter x [] e = absurd (false≢true e)
shorter x (y ∷ ys) e = step (y == x) (shorter x ys) e
  where
    step : (b : Bool) → (has x ys ≡ true → length ys ≡ suc (length (without x ys))) → (b || has x ys) ≡ true → suc (length ys) ≡ suc (length (cond b ys (y ∷ without x ys)))
    step true rest q = refl
    step false rest q = ap suc (rest q)

still : (x k : ℕ) (ys : List ℕ) → (x ≡ k → ⊥) → has k ys ≡ true → has k (without x ys) ≡ true
still x k [] other e = e
still x k (y ∷ ys) other e = step (y == x) refl (y == k) refl (still x k ys other) e
  where
    step : (a : Bool) → (y == x) ≡ a → (b : Bool) → (y == k) ≡ b → (has k ys ≡ true → has k (without x ys) ≡ true) → (b || has k ys) ≡ true → has k (cond a ys (y ∷ without x ys)) ≡ true
    step true at_x true at_k rest q = absurd (other (sym (eqb-true y x at_x) ∙ eqb-true y k at_k))
    step true at_x false at_k rest q = q
    step false at_x true at_k rest q = ap (λ c. c || has k (without x ys)) at_k
    step false at_x false at_k rest q = or_right (y == k) (has k (without x ys)) (rest q)

-- a list without duplicates is no longer than one that has all of it
pub once_fits : (xs ys : List ℕ) → Once xs → ((k : ℕ) → has k xs ≡ true → has k ys ≡ true) → length xs ≤ length ys
once_fits [] ys o within = omega arith
once_fits (x ∷ xs) ys o within =
    let here : has x ys ≡ true = within x (ap (λ b. b || has x xs) (eq-eqb x x refl)) in
    let less = shorter x ys here in
    let rest : length xs ≤ length (without x ys) = once_fits xs (without x ys) o.1 (λ k e. still x k ys (λ same. absurd (false≢true (sym (subst (λ q. has q xs ≡ false) same o.0) ∙ e))) (within k (or_right (x == k) (has k xs) e))) in
    omega (arith, less, rest)
