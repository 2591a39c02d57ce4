-- The last item of a list, changed.
use Rattle.std.proofs.Common.{◌≡◌, List, [], ◌∷◌, ◌++◌, Some, refl, ap, ◌∙◌}
use Rattle.std.proofs.lemmas.Option.{none-some, same_Some}
use Rattle.ob_session.specs.Clients.{on_last, last_of}

pub last_of-cons : {A : Type 0} (x : A) (xs : List A) (y : A) → last_of xs ≡ Some y → last_of (x ∷ xs) ≡ Some y
last_of-cons x [] y e = absurd (none-some y e)
last_of-cons x (z ∷ zs) y e = e

pub last_of-append : {A : Type 0} (xs ys : List A) (y : A) → last_of ys ≡ Some y → last_of (xs ++ ys) ≡ Some y
last_of-append [] ys y e = e
last_of-append (x ∷ xs) ys y e = last_of-cons x (xs ++ ys) y (last_of-append xs ys y e)

pub on_last-cons : {A : Type 0} (f : A → A) (x : A) (xs : List A) (y : A) → last_of xs ≡ Some y → on_last f (x ∷ xs) ≡ x ∷ on_last f xs
on_last-cons f x [] y e = absurd (none-some y e)
on_last-cons f x (z ∷ zs) y e = refl

pub on_last-append : {A : Type 0} (f : A → A) (xs ys : List A) (y : A) → last_of ys ≡ Some y → on_last f (xs ++ ys) ≡ xs ++ on_last f ys
on_last-append f [] ys y e = refl
on_last-append f (x ∷ xs) ys y e = on_last-cons f x (xs ++ ys) y (last_of-append xs ys y e) ∙ ap (λ zs. x ∷ zs) (on_last-append f xs ys y e)

pub last_of-on_last : {A : Type 0} (f : A → A) (xs : List A) (y : A) → last_of xs ≡ Some y → last_of (on_last f xs) ≡ Some (f y)
last_of-on_last f [] y e = absurd (none-some y e)
last_of-on_last f (x ∷ []) y e = ap (λ z. Some (f z)) (same_Some x y e)
last_of-on_last f (x ∷ z ∷ zs) y e = last_of-cons x (on_last f (z ∷ zs)) (f y) (last_of-on_last f (z ∷ zs) y e)

pub on_last-same : {A : Type 0} (f : A → A) (xs : List A) → ((x : A) → f x ≡ x) → on_last f xs ≡ xs
on_last-same f [] same = refl
on_last-same f (x ∷ []) same = ap (λ z. z ∷ []) (same x)
on_last-same f (x ∷ z ∷ zs) same = ap (λ ys. x ∷ ys) (on_last-same f (z ∷ zs) same)

-- changed twice alike
pub on_last_twice : {A : Type 0} (f : A → A) (xs : List A) (y : A) → last_of xs ≡ Some y → ((x : A) → f (f x) ≡ f x) → on_last f (on_last f xs) ≡ on_last f xs
on_last_twice f [] y e same = refl
on_last_twice f (x ∷ []) y e same = ap (λ z. z ∷ []) (same x)
on_last_twice f (x ∷ z ∷ zs) y e same = on_last-cons f x (on_last f (z ∷ zs)) (f y) (last_of-on_last f (z ∷ zs) y e) ∙ ap (λ ys. x ∷ ys) (on_last_twice f (z ∷ zs) y e same)
