-- What is told by one call more.
use Rattle.std.proofs.Common.{◌≡◌, Bool, true, false, ◌||◌, List, [], ◌∷◌, ◌++◌, Some, refl, ap}
use Rattle.std.specs.List.{list_any}
use Rattle.ob_desk.specs.Desk.{Call, Reply}
use Rattle.ob_session.specs.Clients.{Told, told_after, told_from, told_of, last_of, on_last, has_signed_off, was_refused, is_sign_off, is_refusal}

pub last_more : {A : Type 0} (xs : List A) (x : A) → last_of (xs ++ x ∷ []) ≡ Some x
last_more [] x = refl
last_more (y ∷ []) x = refl
last_more (y ∷ z ∷ more) x = last_more (z ∷ more) x

pub on_last_more : {A : Type 0} (f : A → A) (xs : List A) (x : A) → on_last f (xs ++ x ∷ []) ≡ xs ++ f x ∷ []
on_last_more f [] x = refl
on_last_more f (y ∷ []) x = refl
on_last_more {A} f (y ∷ z ∷ more) x = ap (λ (ys : List A). y ∷ ys) (on_last_more f (z ∷ more) x)

pub on_last_same : {A : Type 0} (f : A → A) → ((x : A) → f x ≡ x) → (xs : List A) → on_last f xs ≡ xs
on_last_same f same [] = refl
on_last_same {A} f same (y ∷ []) = ap (λ (z : A). z ∷ []) (same y)
on_last_same {A} f same (y ∷ z ∷ more) = ap (λ (ys : List A). y ∷ ys) (on_last_same f same (z ∷ more))

from_more : (told : List Told) (said : List (Call × Reply)) (step : Call × Reply) → told_from told (said ++ step ∷ []) ≡ told_after (told_from told said) step
from_more told [] step = refl
from_more told (s ∷ said) step = from_more (told_after told s) said step

pub told_more : (said : List (Call × Reply)) (step : Call × Reply) → told_of (said ++ step ∷ []) ≡ told_after (told_of said) step
told_more said step = from_more [] said step

any_false : {A : Type 0} (p : A → Bool) (xs : List A) (x : A) → p x ≡ false → list_any p (xs ++ x ∷ []) ≡ list_any p xs
any_false p [] x h = rw h refl
any_false p (y ∷ ys) x h = ap (λ (b : Bool). p y || b) (any_false p ys x h)

any_true : {A : Type 0} (p : A → Bool) (xs : List A) (x : A) → p x ≡ true → list_any p (xs ++ x ∷ []) ≡ true
any_true p [] x h = rw h refl
any_true p (y ∷ ys) x h = rw (any_true p ys x h) (elim (p y) as (λ b. (b || true) ≡ true) [ true ↦ refl | false ↦ refl ])

pub signed_same : (said : List (Call × Reply)) (step : Call × Reply) → is_sign_off step ≡ false → has_signed_off (said ++ step ∷ []) ≡ has_signed_off said
signed_same said step h = any_false is_sign_off said step h

pub signed_now : (said : List (Call × Reply)) (step : Call × Reply) → is_sign_off step ≡ true → has_signed_off (said ++ step ∷ []) ≡ true
signed_now said step h = any_true is_sign_off said step h

pub refused_same : (said : List (Call × Reply)) (step : Call × Reply) → is_refusal step ≡ false → was_refused (said ++ step ∷ []) ≡ was_refused said
refused_same said step h = any_false is_refusal said step h

pub refused_now : (said : List (Call × Reply)) (step : Call × Reply) → is_refusal step ≡ true → was_refused (said ++ step ∷ []) ≡ true
refused_now said step h = any_true is_refusal said step h
