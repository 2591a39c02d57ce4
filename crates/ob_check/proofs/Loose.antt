-- The numbers of a range that pass a test, as far as they are known.
use Rattle.std.specs.Prelude.{◌≡◌, ◌<◌, ℕ, ◌+◌, Bool, true, false, cond, List, [], ◌∷◌, ◌++◌, filter, length, slice_index}
use Rattle.std.proofs.Common.{zero, suc, arith, refl, sym, ap, ◌∙◌, inl, inr, get_or, length-append}
use Rattle.std.proofs.lemmas.Bool.{cases_eq}
use Rattle.std.proofs.lemmas.List.{append-nil}
use Rattle.ob_base.specs.Tree.{below}
use Rattle.ob_tables.proofs.VersionLaws.{range_up}

pub front_at : (xs ys : List ℕ) (i : ℕ) → i < length xs → get_or (xs ++ ys) i 0 ≡ get_or xs i 0
front_at [] ys i lt = absurd (omega arith)
front_at (x ∷ xs) ys zero lt = refl
front_at (x ∷ xs) ys (suc i) lt = front_at xs ys i (omega arith)

pub last_of : (xs : List ℕ) (y : ℕ) → get_or (xs ++ y ∷ []) (length xs) 0 ≡ y
last_of [] y = refl
last_of (x ∷ xs) y = last_of xs y

module _ (q : ℕ → Bool) where
  cond_append : (b : Bool) (x : ℕ) (xs ys : List ℕ) → cond b (x ∷ (xs ++ ys)) (xs ++ ys) ≡ cond b (x ∷ xs) xs ++ ys
  cond_append true x xs ys = refl
  cond_append false x xs ys = refl

  filter_append : (xs ys : List ℕ) → filter q (xs ++ ys) ≡ filter q xs ++ filter q ys
  filter_append [] ys = refl
  filter_append (x ∷ xs) ys = ap (λ (zs : List ℕ). cond (q x) (x ∷ zs) zs) (filter_append xs ys) ∙ cond_append (q x) x (filter q xs) (filter q ys)

  pub passed : ℕ → List ℕ
  passed n = filter q (below n)

  up : (n : ℕ) → filter q (below (n + 1)) ≡ filter q (below n) ++ cond (q n) (n ∷ []) []
  up n = ap (filter q) (range_up n) ∙ filter_append (below n) (n ∷ [])

  pub up_in : (n : ℕ) → q n ≡ true → filter q (below (n + 1)) ≡ filter q (below n) ++ n ∷ []
  up_in n on = up n ∙ ap (λ (b : Bool). filter q (below n) ++ cond b (n ∷ []) []) on

  pub up_out : (n : ℕ) → q n ≡ false → filter q (below (n + 1)) ≡ filter q (below n)
  up_out n off = up n ∙ ap (λ (b : Bool). filter q (below n) ++ cond b (n ∷ []) []) off ∙ append-nil (filter q (below n))

  pub many_in : (n : ℕ) → q n ≡ true → length (filter q (below (n + 1))) ≡ length (filter q (below n)) + 1
  many_in n on = ap length (up_in n on) ∙ length-append (filter q (below n)) (n ∷ [])

  pub many_out : (n : ℕ) → q n ≡ false → length (filter q (below (n + 1))) ≡ length (filter q (below n))
  many_out n off = ap length (up_out n off)

  tail_of : ℕ → List ℕ
  tail_of n = cond (q n) (n ∷ []) []

  suc_is : (n : ℕ) → filter q (below (suc n)) ≡ filter q (below n) ++ cond (q n) (n ∷ []) []
  suc_is n = let e : suc n ≡ n + 1 = omega arith in ap (λ m. filter q (below m)) e ∙ up n

  pub within : (n k : ℕ) → k < n → q k ≡ true → length (filter q (below k)) < length (filter q (below n))
  within zero k lt on = absurd (omega arith)
  within (suc n) k lt on = elim (cases_eq k n) [
    | inl same ↦ (
        let on' : q n ≡ true = ap q (sym same) ∙ on in
        let e : length (filter q (below (suc n))) ≡ length (filter q (below n)) + 1 = ap length (suc_is n) ∙ ap (λ (b : Bool). length (filter q (below n) ++ cond b (n ∷ []) [])) on' ∙ length-append (filter q (below n)) (n ∷ []) in
        let l : length (filter q (below k)) ≡ length (filter q (below n)) = ap (λ m. length (filter q (below m))) same in
        omega arith)
    | inr ne ↦ (
        let e : length (filter q (below (suc n))) ≡ length (filter q (below n)) + length (cond (q n) (n ∷ []) []) = ap length (suc_is n) ∙ length-append (filter q (below n)) (cond (q n) (n ∷ []) []) in
        let l : length (filter q (below k)) < length (filter q (below n)) = within n k (omega arith) on in
        omega arith)
  ]

  pub at_place : (n k : ℕ) → k < n → q k ≡ true → slice_index (filter q (below n)) (length (filter q (below k))) ≡ k
  at_place zero k lt on = absurd (omega arith)
  at_place (suc n) k lt on = elim (cases_eq k n) [
    | inl same ↦ (
        let on' : q n ≡ true = ap q (sym same) ∙ on in
        ap (λ (xs : List ℕ). get_or xs (length (filter q (below k))) 0) (suc_is n ∙ ap (λ (b : Bool). filter q (below n) ++ cond b (n ∷ []) []) on')
        ∙ ap (λ m. get_or (filter q (below n) ++ n ∷ []) (length (filter q (below m))) 0) same ∙ last_of (filter q (below n)) n ∙ sym same)
    | inr ne ↦ (
        let low : k < n = omega arith in
        ap (λ (xs : List ℕ). get_or xs (length (filter q (below k))) 0) (suc_is n) ∙ front_at (filter q (below n)) (cond (q n) (n ∷ []) []) (length (filter q (below k))) (within n k low on) ∙ at_place n k low on)
  ]
