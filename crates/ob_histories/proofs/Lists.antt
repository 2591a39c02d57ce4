-- Fronts of lists, and counts over lists.
use Rattle.std.specs.Prelude.{◌≡◌, ◌≤◌, ◌⊎◌, ℕ, ◌+◌, Bool, cond, List, [], ◌∷◌, ◌++◌, take, length}
use Rattle.std.specs.List.{count_by, fold}
use Rattle.std.proofs.Common.{zero, suc, refl, sym, ap, ◌∙◌, inl, inr, arith, zero-add, add-zero, add_assoc}

count_from : {X : Type 0} (t : X → Bool) (a : ℕ) (xs : List X) → fold (λ (n : ℕ) (x : X). n + cond (t x) 1 0) a xs ≡ a + count_by t xs
count_from t a [] = sym (add-zero a)
count_from {X} t a (x ∷ xs) =
    let c : ℕ = cond (t x) 1 0 in
    let left : fold (λ (n : ℕ) (y : X). n + cond (t y) 1 0) (a + c) xs ≡ (a + c) + count_by t xs = count_from t (a + c) xs in
    let right : fold (λ (n : ℕ) (y : X). n + cond (t y) 1 0) (0 + c) xs ≡ (0 + c) + count_by t xs = count_from t (0 + c) xs in
    left ∙ add_assoc a c (count_by t xs) ∙ ap (λ (n : ℕ). a + n) (ap (λ (n : ℕ). n + count_by t xs) (sym (zero-add c)) ∙ sym right)

pub count_one : {X : Type 0} (t : X → Bool) (x : X) (xs : List X) → count_by t (x ∷ xs) ≡ cond (t x) 1 0 + count_by t xs
count_one t x xs = count_from t (0 + cond (t x) 1 0) xs ∙ ap (λ (n : ℕ). n + count_by t xs) (zero-add (cond (t x) 1 0))

pub count_more : {X : Type 0} (t : X → Bool) (xs ys : List X) → count_by t (xs ++ ys) ≡ count_by t xs + count_by t ys
count_more t [] ys = sym (zero-add (count_by t ys))
count_more t (x ∷ xs) ys =
    count_one t x (xs ++ ys) ∙ ap (λ (n : ℕ). cond (t x) 1 0 + n) (count_more t xs ys) ∙ sym (add_assoc (cond (t x) 1 0) (count_by t xs) (count_by t ys))
    ∙ ap (λ (n : ℕ). n + count_by t ys) (sym (count_one t x xs))

-- a front lies in the first part, or has it whole
pub front_cases : {X : Type 0} (n : ℕ) (xs ys : List X) → ((n ≤ length xs) × (take n (xs ++ ys) ≡ take n xs)) ⊎ ((m : ℕ) × ((n ≡ length xs + m) × (take n (xs ++ ys) ≡ xs ++ take m ys)))
front_cases zero xs ys = inl (omega arith, refl)
front_cases (suc n) [] ys = inr (suc n, (omega arith, refl))
front_cases {X} (suc n) (x ∷ xs) ys = go (front_cases n xs ys)
  where
    go : ((n ≤ length xs) × (take n (xs ++ ys) ≡ take n xs)) ⊎ ((m : ℕ) × ((n ≡ length xs + m) × (take n (xs ++ ys) ≡ xs ++ take m ys)))
        → ((suc n ≤ length (x ∷ xs)) × (take (suc n) ((x ∷ xs) ++ ys) ≡ take (suc n) (x ∷ xs))) ⊎ ((m : ℕ) × ((suc n ≡ length (x ∷ xs) + m) × (take (suc n) ((x ∷ xs) ++ ys) ≡ (x ∷ xs) ++ take m ys)))
    go (inl (few, same)) = inl (omega (arith, few), ap (λ (zs : List X). x ∷ zs) same)
    go (inr (m, (is, same))) = inr (m, (omega (arith, is), ap (λ (zs : List X). x ∷ zs) same))

pub take_whole : {X : Type 0} (n : ℕ) (xs : List X) → length xs ≤ n → take n xs ≡ xs
take_whole zero [] few = refl
take_whole zero (x ∷ xs) few = absurd (omega (arith, few))
take_whole (suc n) [] few = refl
take_whole {X} (suc n) (x ∷ xs) few = ap (λ (zs : List X). x ∷ zs) (take_whole n xs (omega (arith, few)))
