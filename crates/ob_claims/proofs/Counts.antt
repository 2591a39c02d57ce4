-- How often a number stands in a list.
use Rattle.std.proofs.Common.{◌≡◌, ℕ, zero, suc, ◌+◌, ◌<◌, ◌≤◌, ◌==◌, Bool, cond, List, [], ◌∷◌, ◌++◌, refl, ap, ◌∙◌, arith, eq-eqb, ne_eqb}
use Rattle.std.specs.List.{range_with_len}
use Rattle.std.proofs.lemmas.List.Sums.{sum_by-append}
use mathlib.Core.Logic.{dite}
use native.Mathlib.Decide.{ℕ_discrete}
use Rattle.ob_base.specs.Tree.{below}
use Rattle.ob_claims.specs.ClaimRule.{times}

pub times_append : (x : ℕ) (xs ys : List ℕ) → times x (xs ++ ys) ≡ times x xs + times x ys
times_append x xs ys = sum_by-append (λ y. cond (y == x) 1 0) xs ys

-- once, where the numbers are the same
pub times_one : (x n : ℕ) → times x (n ∷ []) ≡ cond (n == x) 1 0
times_one x n = omega arith

numbers_more : (a n : ℕ) → range_with_len a (suc n) ≡ range_with_len a n ++ (a + n) ∷ []
numbers_more a zero = ap (λ (k : ℕ). k ∷ []) (omega arith)
numbers_more a (suc n) =
    let last : a + 1 + n ≡ a + suc n = omega arith in
    ap (λ (xs : List ℕ). a ∷ xs) (numbers_more (a + 1) n ∙ ap (λ (k : ℕ). range_with_len (a + 1) n ++ k ∷ []) last)

pub below_more : (x n : ℕ) → times x (below (suc n)) ≡ times x (below n) + times x (n ∷ [])
below_more x n = ap (times x) (numbers_more 0 n ∙ ap (λ (k : ℕ). below n ++ k ∷ []) (omega arith)) ∙ times_append x (below n) (n ∷ [])

pub below_not : (x n : ℕ) → n ≤ x → times x (below n) ≡ 0
below_not x zero le = refl
below_not x (suc n) le =
    let more = below_more x n in
    let rest = below_not x n (omega (arith, le)) in
    let other : times x (n ∷ []) ≡ 0 = times_one x n ∙ ap (λ (b : Bool). cond b 1 0) (ne_eqb n x (λ e. omega (arith, e, le))) in
    omega (arith, more, rest, other)

pub below_once : (x n : ℕ) → x < n → times x (below n) ≡ 1
below_once x zero lt = absurd (omega (arith, lt))
below_once x (suc n) lt =
    let more = below_more x n in
    dite (ℕ_discrete n x)
    (λ same.
    let rest = below_not x n (omega (arith, same)) in
    let one : times x (n ∷ []) ≡ 1 = times_one x n ∙ ap (λ (b : Bool). cond b 1 0) (eq-eqb n x same) in
    omega (arith, more, rest, one))
    (λ ne.
    let rest = below_once x n (omega (arith, lt, ne)) in
    let other : times x (n ∷ []) ≡ 0 = times_one x n ∙ ap (λ (b : Bool). cond b 1 0) (ne_eqb n x ne) in
    omega (arith, more, rest, other))
