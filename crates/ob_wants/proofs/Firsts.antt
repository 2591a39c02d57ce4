-- Each number at its first place, with one number more.
use Rattle.std.specs.Prelude.{◌≡◌, ℕ, ◌+◌, ◌<◌, ◌==◌, Bool, true, false, not, ◌||◌, cond, List, [], ◌∷◌, ◌++◌, take, filter, length}
use Rattle.std.proofs.Common.{refl, sym, ap, ◌∙◌, get_or, append-nil}
use Rattle.std.proofs.lemmas.Bool.{eqb-true, eqb-false, eq-eqb, ne_eqb}
use Rattle.std.proofs.lemmas.List.{take_more}
use Rattle.std.proofs.lemmas.List.Elements.{filter-append}
use Rattle.ob_schedule.specs.Paths.{is_one_of}
use Rattle.ob_schedule.specs.Holes.{firsts}

abbrev others : ℕ → List ℕ → List ℕ
others x ys = filter (λ v. not (v == x)) ys

or_twice : (a b : Bool) → (a || b) ≡ (a || (a || b))
or_twice true b = refl
or_twice false b = refl

or_within : (a c f s : Bool) → (a || f) ≡ (a || s) → (a || (c || f)) ≡ (a || (c || s))
or_within true c f s same = refl
or_within false c f s same = ap (λ (x : Bool). c || x) same

kept_among : (x v y : ℕ) (fs ys : List ℕ) (b : Bool) → (y == x) ≡ b → ((x == v) || is_one_of fs v) ≡ ((x == v) || is_one_of ys v)
    → ((x == v) || is_one_of (cond (not b) (y ∷ fs) fs) v) ≡ ((x == v) || ((y == v) || is_one_of ys v))
kept_among x v y fs ys true is same = same ∙ or_twice (x == v) (is_one_of ys v) ∙ ap (λ (n : ℕ). (x == v) || ((n == v) || is_one_of ys v)) (sym (eqb-true y x is))
kept_among x v y fs ys false is same = or_within (x == v) (y == v) (is_one_of fs v) (is_one_of ys v) same

among_others : (x v : ℕ) (ys : List ℕ) → ((x == v) || is_one_of (others x ys) v) ≡ ((x == v) || is_one_of ys v)
among_others x v [] = refl
among_others x v (y ∷ ys) = kept_among x v y (others x ys) ys (y == x) refl (among_others x v ys)

one_other : (x v : ℕ) (a : Bool) → (x == v) ≡ a → others x (v ∷ []) ≡ cond a [] (v ∷ [])
one_other x v true is = ap (λ (b : Bool). cond (not b) (v ∷ []) []) (eq-eqb v x (sym (eqb-true x v is)))
one_other x v false is = ap (λ (b : Bool). cond (not b) (v ∷ []) []) (ne_eqb v x (λ same. eqb-false x v is (sym same)))

one_more : (x v : ℕ) (fs : List ℕ) (a b : Bool) → (x == v) ≡ a → x ∷ others x (cond b fs (fs ++ v ∷ [])) ≡ cond (a || b) (x ∷ others x fs) (x ∷ (others x fs ++ v ∷ []))
one_more x v fs true true is = refl
one_more x v fs false true is = refl
one_more x v fs true false is = ap (λ (ys : List ℕ). x ∷ ys) (filter-append (λ w. not (w == x)) fs (v ∷ []) ∙ ap (λ (ys : List ℕ). others x fs ++ ys) (one_other x v true is) ∙ append-nil (others x fs))
one_more x v fs false false is = ap (λ (ys : List ℕ). x ∷ ys) (filter-append (λ w. not (w == x)) fs (v ∷ []) ∙ ap (λ (ys : List ℕ). others x fs ++ ys) (one_other x v false is))

firsts_behind : (xs : List ℕ) (v : ℕ) → firsts (xs ++ v ∷ []) ≡ cond (is_one_of (firsts xs) v) (firsts xs) (firsts xs ++ v ∷ [])
firsts_behind [] v = refl
firsts_behind (x ∷ xs) v =
    ap (λ (ys : List ℕ). x ∷ others x ys) (firsts_behind xs v)
    ∙ one_more x v (firsts xs) (x == v) (is_one_of (firsts xs) v) refl
    ∙ ap (λ (b : Bool). cond b (x ∷ others x (firsts xs)) (x ∷ (others x (firsts xs) ++ v ∷ []))) (sym (among_others x v (firsts xs)))

pub firsts_more : (xs : List ℕ) (i : ℕ) → i < length xs → firsts (take (i + 1) xs) ≡ cond (is_one_of (firsts (take i xs)) (get_or xs i 0)) (firsts (take i xs)) (firsts (take i xs) ++ get_or xs i 0 ∷ [])
firsts_more xs i lt = ap firsts (take_more xs i 0 lt) ∙ firsts_behind (take i xs) (get_or xs i 0)
