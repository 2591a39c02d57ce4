-- What a test finds in lists over ranges.
use Rattle.std.specs.Prelude.{◌≡◌, ◌<◌, ◌≤◌, ◌⊎◌, ℕ, ◌+◌, ◌==◌, Bool, true, false, cond, ◌||◌, List, [], ◌∷◌, ◌++◌, map, filter, length, slice_index}
use Rattle.std.specs.List.{flat_map}
use Rattle.std.proofs.Common.{zero, suc, arith, refl, sym, ap, ◌∙◌, inl, inr, get_or}
use Rattle.std.proofs.lemmas.Bool.{cases_eq, eq-eqb, false≢true}
use Rattle.std.proofs.lemmas.List.{append-nil}
use Rattle.std.proofs.lemmas.List.Concat.{flat_map-append}
use Rattle.std.proofs.lemmas.List.Folds.{list_any-append}
use Rattle.ob_base.specs.Tree.{below}
use Rattle.ob_tables.proofs.VersionLaws.{range_up}
use Rattle.ob_check.specs.Rules.{is_among}
use Rattle.ob_check.proofs.Ranges.{map_up, any_at}
use Rattle.ob_check.proofs.Passing.{either, eq_from}

or_right : (a b : Bool) → b ≡ true → (a || b) ≡ true
or_right true b e = refl
or_right false b e = e

or_left : (a b : Bool) → a ≡ true → (a || b) ≡ true
or_left true b e = refl
or_left false b e = absurd (false≢true e)

-- a number in either part
pub among_left : (xs ys : List ℕ) (x : ℕ) → is_among xs x ≡ true → is_among (xs ++ ys) x ≡ true
among_left xs ys x e = list_any-append (λ y. y == x) xs ys ∙ or_left (is_among xs x) (is_among ys x) e

pub among_right : (xs ys : List ℕ) (x : ℕ) → is_among ys x ≡ true → is_among (xs ++ ys) x ≡ true
among_right xs ys x e = list_any-append (λ y. y == x) xs ys ∙ or_right (is_among xs x) (is_among ys x) e

pub among_either : (xs ys : List ℕ) (x : ℕ) → is_among (xs ++ ys) x ≡ true → (is_among xs x ≡ true) ⊎ (is_among ys x ≡ true)
among_either xs ys x e = either (is_among xs x) (is_among ys x) (sym (list_any-append (λ y. y == x) xs ys) ∙ e)

-- a number of a range
pub among_map : (f : ℕ → ℕ) (n i x : ℕ) → i < n → f i ≡ x → is_among (map f (below n)) x ≡ true
among_map f n i x lt e = any_at f (λ y. y == x) n i lt (eq-eqb (f i) x e)

pub map_among : (f : ℕ → ℕ) (n x : ℕ) → is_among (map f (below n)) x ≡ true → (i : ℕ) × (i < n) × (f i ≡ x)
map_among f zero x e = absurd (false≢true e)
map_among f (suc n) x e =
    let s : suc n ≡ n + 1 = omega arith in
    elim (among_either (map f (below n)) (f n ∷ []) x (sym (ap (λ m. is_among (map f (below m)) x) s ∙ ap (λ (xs : List ℕ). is_among xs x) (map_up f n)) ∙ e)) [
      | inl before ↦ (let r = map_among f n x before in (r.0, (let l : r.0 < n = r.1 in omega arith), r.2))
      | inr here ↦ elim (either (f n == x) false here) [
        | inl is ↦ (n, omega arith, eq_from (f n) x is)
        | inr other ↦ absurd (false≢true other)
      ]
    ]

-- a number of a part
module _ (g : ℕ → List ℕ) where
  flat_up : (n : ℕ) → flat_map g (below (suc n)) ≡ flat_map g (below n) ++ g n
  flat_up n =
      let s : suc n ≡ n + 1 = omega arith in
      ap (λ m. flat_map g (below m)) s ∙ ap (flat_map g) (range_up n) ∙ flat_map-append g (below n) (n ∷ []) ∙ ap (λ (xs : List ℕ). flat_map g (below n) ++ xs) (append-nil (g n))

  pub among_flat : (n i x : ℕ) → i < n → is_among (g i) x ≡ true → is_among (flat_map g (below n)) x ≡ true
  among_flat zero i x lt e = absurd (omega arith)
  among_flat (suc n) i x lt e = ap (λ (xs : List ℕ). is_among xs x) (flat_up n) ∙ elim (cases_eq i n) [
    | inl same ↦ among_right (flat_map g (below n)) (g n) x (ap (λ m. is_among (g m) x) (sym same) ∙ e)
    | inr ne ↦ among_left (flat_map g (below n)) (g n) x (among_flat n i x (omega arith) e)
  ]

  pub flat_among : (n x : ℕ) → is_among (flat_map g (below n)) x ≡ true → (i : ℕ) × (i < n) × (is_among (g i) x ≡ true)
  flat_among zero x e = absurd (false≢true e)
  flat_among (suc n) x e = elim (among_either (flat_map g (below n)) (g n) x (sym (ap (λ (xs : List ℕ). is_among xs x) (flat_up n)) ∙ e)) [
    | inl before ↦ (let r = flat_among n x before in (r.0, (let l : r.0 < n = r.1 in omega arith), r.2))
    | inr here ↦ (n, omega arith, here)
  ]

-- what a filter leaves passes the test
module _ (q : ℕ → Bool) where
  keep_case : (b : Bool) (x : ℕ) (ys : List ℕ) (i : ℕ) → q x ≡ b → i < length (cond b (x ∷ ys) ys) → ((j : ℕ) → j < length ys → q (get_or ys j 0) ≡ true) → q (get_or (cond b (x ∷ ys) ys) i 0) ≡ true
  keep_case true x ys zero e lt rest = e
  keep_case true x ys (suc i) e lt rest = rest i (omega arith)
  keep_case false x ys i e lt rest = rest i lt

  pub kept_passes : (xs : List ℕ) (i : ℕ) → i < length (filter q xs) → q (slice_index (filter q xs) i) ≡ true
  kept_passes [] i lt = absurd (omega arith)
  kept_passes (x ∷ xs) i lt = keep_case (q x) x (filter q xs) i refl lt (kept_passes xs)

  low_case : (n : ℕ) (b : Bool) (x : ℕ) (ys : List ℕ) (i : ℕ) → x < n → i < length (cond b (x ∷ ys) ys) → ((j : ℕ) → j < length ys → get_or ys j 0 < n) → get_or (cond b (x ∷ ys) ys) i 0 < n
  low_case n true x ys zero xl lt rest = xl
  low_case n true x ys (suc i) xl lt rest = rest i (omega arith)
  low_case n false x ys i xl lt rest = rest i lt

  pub kept_low : (n : ℕ) (xs : List ℕ) → ((j : ℕ) → j < length xs → get_or xs j 0 < n) → (i : ℕ) → i < length (filter q xs) → slice_index (filter q xs) i < n
  kept_low n [] all i lt = absurd (omega arith)
  kept_low n (x ∷ xs) all i lt = low_case n (q x) x (filter q xs) i (all 0 (omega arith)) lt (kept_low n xs (λ j l. all (suc j) (omega arith)))

  few_case : (b : Bool) (x : ℕ) (ys : List ℕ) (n : ℕ) → length ys ≤ n → length (cond b (x ∷ ys) ys) ≤ suc n
  few_case true x ys n le = omega arith
  few_case false x ys n le = omega arith

  pub kept_few : (xs : List ℕ) → length (filter q xs) ≤ length xs
  kept_few [] = omega arith
  kept_few (x ∷ xs) = few_case (q x) x (filter q xs) (length xs) (kept_few xs)
