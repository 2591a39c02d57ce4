-- Counting, item by item.
use Rattle.std.proofs.Common.{◌≡◌, ℕ, zero, suc, ◌+◌, ◌<◌, Bool, cond, fold, List, [], ◌∷◌, ◌++◌, take, get_or, length, refl, sym, ap, ◌∙◌, arith, add-one}
use Rattle.std.specs.List.{count_by, range_with_len}
use Rattle.std.proofs.lemmas.List.{take_more}

one_more : {A : Type 0} (p : A → Bool) (a : ℕ) (xs : List A) (y : A) → fold (λ n x. n + cond (p x) 1 0) a (xs ++ y ∷ []) ≡ fold (λ n x. n + cond (p x) 1 0) a xs + cond (p y) 1 0
one_more p a [] y = refl
one_more p a (x ∷ xs) y = one_more p (a + cond (p x) 1 0) xs y

pub count_item : {A : Type 0} (p : A → Bool) (xs : List A) (i : ℕ) (x : A) → i < length xs → x ≡ get_or xs i x → count_by p (take (i + 1) xs) ≡ count_by p (take i xs) + cond (p x) 1 0
count_item p xs i x l e = ap (count_by p) (take_more xs i x l) ∙ (one_more p 0 (take i xs) (get_or xs i x) ∙ ap (λ y. count_by p (take i xs) + cond (p y) 1 0) (sym e))

pub count_ticket : (p : ℕ → Bool) (n : ℕ) → count_by p (range_with_len 1 (n + 1)) ≡ count_by p (range_with_len 1 n) + cond (p (n + 1)) 1 0
count_ticket p n = ap (λ k. count_by p (range_with_len 1 k)) (add-one n) ∙ (ap (count_by p) (last 1 n) ∙ (one_more p 0 (range_with_len 1 n) (1 + n)
    ∙ ap (λ k. count_by p (range_with_len 1 n) + cond (p k) 1 0) (let e : 1 + n ≡ n + 1 = omega arith in e)))
  where
    last : (a n : ℕ) → range_with_len a (suc n) ≡ range_with_len a n ++ (a + n) ∷ []
    last a zero = ap (λ k. k ∷ []) (let e : a ≡ a + 0 = omega arith in e)
    last a (suc n) = ap (λ ks. a ∷ ks) (last (a + 1) n ∙ ap (λ k. range_with_len (a + 1) n ++ k ∷ []) (let e : a + 1 + n ≡ a + suc n = omega arith in e))
