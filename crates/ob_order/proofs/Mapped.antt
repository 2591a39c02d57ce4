-- A list that a loop changes item by item.
use Rattle.std.proofs.Common.{◌≡◌, ℕ, zero, suc, ◌+◌, ◌<◌, ◌≤◌, List, [], ◌∷◌, ◌++◌, map, set, take, drop, get_or, length, sym, ap, ap₂, ◌∙◌, arith, add-one, append-nil, drop_of_length-le}
use Rattle.std.proofs.lemmas.List.{take_all}

-- one item more is changed
pub mapped_more : {A : Type 0} (g : A → A) (xs ys : List A) (i : ℕ) (x : A) → i < length xs → ys ≡ map g (take i xs) ++ drop i xs → x ≡ get_or ys i x → set ys i (g x) ≡ map g (take (i + 1) xs) ++ drop (i + 1) xs
mapped_more g xs ys i x l so_far here =
    ap (λ (zs : List _). set zs i (g x)) so_far
    ∙ (next g xs i x l (here ∙ ap (λ (zs : List _). get_or zs i x) so_far)
    ∙ ap (λ n. map g (take n xs) ++ drop n xs) (sym (add-one i)))
  where
    next : {A : Type 0} (g : A → A) (xs : List A) (i : ℕ) (x : A) → i < length xs → x ≡ get_or (map g (take i xs) ++ drop i xs) i x → set (map g (take i xs) ++ drop i xs) i (g x) ≡ map g (take (suc i) xs) ++ drop (suc i) xs
    next g [] i x l e = absurd (omega arith)
    next g (y ∷ ys) zero x l e = ap (λ z. g z ∷ ys) e
    next g (y ∷ ys) (suc i) x l e = ap (λ zs. g y ∷ zs) (next g ys i x (omega arith) e)

pub mapped_all : {A : Type 0} (g : A → A) (xs ys : List A) (i : ℕ) → length xs ≤ i → ys ≡ map g (take i xs) ++ drop i xs → ys ≡ map g xs
mapped_all g xs ys i past so_far = so_far ∙ (ap₂ (λ (a b : List _). map g a ++ b) (take_all i xs past) (drop_of_length-le xs past) ∙ append-nil (map g xs))
