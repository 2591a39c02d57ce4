-- A lift reads as many different unread indexes as a bucket has real slots.
use Rattle.std.specs.Prelude.{◌≡◌, ℕ, ◌+◌, ◌<◌, ◌≤◌, ◌==◌, Bool, true, false, cond, not, ◌&&◌, ◌||◌, List, [], ◌∷◌, ◌++◌, length, filter, take}
use Rattle.std.specs.List.{count_by}
use Rattle.std.proofs.Common.{zero, suc, arith, refl, sym, ◌∙◌, inl, inr, length-append}
use Rattle.std.proofs.lemmas.Bool.{true≢false, false≢true, and_parts, eqb-true, not-true, or_cases}
use Rattle.std.proofs.lemmas.List.Sums.{length-filter}
use Rattle.std.proofs.lemmas.List.FromFn.{length-range_with_len}
use Rattle.ob_base.specs.declared.params.Params.{Params}
use Rattle.ob_base.specs.Tree.{below}
use Rattle.ob_schedule.specs.Paths.{is_one_of}
use Rattle.ob_ring.specs.FlatTable.{FlatTable, Spot, InStash, In, spot_of, is_at, live, reads, indexes, lift_order}
use Rattle.ob_ring.proofs.Ranges.{count_by-split, count_by_all, list_any_at}
use Rattle.ob_ring.proofs.Members.{IsDistinct, one_of-append, one_of-take, one_of-filter, one_of-range, distinct-range, distinct-filter, distinct-take, distinct-append, off_unless}
use Rattle.ob_ring.specs.Sound.{IsSound}

pub is_at-is : (u j : ℕ) (s : Spot) → is_at u j s ≡ true → s ≡ In u j
is_at-is u j InStash e = absurd (false≢true e)
is_at-is u j (In v i) e =
    let a : v ≡ u = eqb-true v u (and_parts (v == u) (i == j) e).0 in
    let b : i ≡ j = eqb-true i j (and_parts (v == u) (i == j) e).1 in
    λ n. In (a n) (b n)

pub live_unread : (p : Params) (t : FlatTable) (u j : ℕ) → IsSound p t → live p t u j ≡ true → t.used u j ≡ false
live_unread p t u j s e =
    let at : (k : ℕ) × (is_at u j (spot_of (t.rows k)) ≡ true) = list_any_at (λ k. is_at u j (spot_of (t.rows k))) (below p.keys) e in
    (s.placed at.0 u j (is_at-is u j (spot_of (t.rows at.0)) at.1)).unread

two_ways : (a b : Bool) → (a ≡ true → b ≡ false) → ◌≡◌ {A = ℕ} (cond a 1 0 + cond (not a && not b) 1 0) (cond (not b) 1 0)
two_ways true true h = absurd (true≢false (h refl))
two_ways true false h = refl
two_ways false true h = refl
two_ways false false h = refl

one_way : (b : Bool) → ◌≡◌ {A = ℕ} (cond b 1 0 + cond (not b) 1 0) (cond true 1 0)
one_way true = refl
one_way false = refl

take_all : (n : ℕ) (xs : List ℕ) → n ≤ length xs → length (take n xs) ≡ n
take_all zero xs h = refl
take_all (suc n) [] h = absurd (omega arith)
take_all (suc n) (x ∷ xs) h = omega (arith, take_all n xs (omega arith))

pub length-lift_order : (p : Params) (t : FlatTable) (u : ℕ) → IsSound p t → reads p t u ≤ p.dummies → length (lift_order p t u) ≡ p.real
length-lift_order p t u s few =
    let a : ℕ → Bool = live p t u in
    let b : ℕ → Bool = λ j. not (live p t u j) && not (t.used u j) in
    let free : count_by a (indexes p) + count_by b (indexes p) ≡ count_by (λ j. not (t.used u j)) (indexes p) =
    count_by-split a b (λ j. not (t.used u j)) (λ j. two_ways (live p t u j) (t.used u j) (live_unread p t u j s)) (indexes p) in
    let all : count_by (t.used u) (indexes p) + count_by (λ j. not (t.used u j)) (indexes p) ≡ p.real + p.dummies =
    count_by-split (t.used u) (λ j. not (t.used u j)) (λ j. true) (λ j. one_way (t.used u j)) (indexes p)
    ∙ count_by_all (indexes p) ∙ length-range_with_len 0 (p.real + p.dummies) in
    take_all p.real (filter a (indexes p) ++ filter b (indexes p))
    (omega (arith, length-append (filter a (indexes p)) (filter b (indexes p)), length-filter a (indexes p), length-filter b (indexes p)))

pub distinct-lift_order : (p : Params) (t : FlatTable) (u : ℕ) → IsDistinct (lift_order p t u)
distinct-lift_order p t u =
    let a : ℕ → Bool = live p t u in
    let b : ℕ → Bool = λ j. not (live p t u j) && not (t.used u j) in
    distinct-take p.real (filter a (indexes p) ++ filter b (indexes p))
    (distinct-append (filter a (indexes p)) (filter b (indexes p))
    (distinct-filter a (indexes p) (distinct-range 0 (p.real + p.dummies))) (distinct-filter b (indexes p) (distinct-range 0 (p.real + p.dummies)))
    (λ k on. off_unless (is_one_of (filter b (indexes p)) k) (λ e.
    true≢false (sym (one_of-filter a (indexes p) k on).0 ∙ not-true (live p t u k) (and_parts (not (live p t u k)) (not (t.used u k)) (one_of-filter b (indexes p) k e).0).0))))

-- each index of a lift is one of the bucket's, and wasn't shown
pub unread_lift_order : (p : Params) (t : FlatTable) (u j : ℕ) → IsSound p t → is_one_of (lift_order p t u) j ≡ true → (j < p.real + p.dummies) × (t.used u j ≡ false)
unread_lift_order p t u j s e =
    let a : ℕ → Bool = live p t u in
    let b : ℕ → Bool = λ j. not (live p t u j) && not (t.used u j) in
    let on : (is_one_of (filter a (indexes p)) j || is_one_of (filter b (indexes p)) j) ≡ true =
    sym (one_of-append (filter a (indexes p)) (filter b (indexes p)) j) ∙ one_of-take p.real (filter a (indexes p) ++ filter b (indexes p)) j e in
    elim (or_cases (is_one_of (filter a (indexes p)) j) (is_one_of (filter b (indexes p)) j) on) [
      | inl x ↦ ((let h : (0 ≤ j) × (j < 0 + (p.real + p.dummies)) = one_of-range 0 (p.real + p.dummies) j (one_of-filter a (indexes p) j x).1 in omega (arith, h.1)), live_unread p t u j s (one_of-filter a (indexes p) j x).0)
      | inr y ↦ ((let h : (0 ≤ j) × (j < 0 + (p.real + p.dummies)) = one_of-range 0 (p.real + p.dummies) j (one_of-filter b (indexes p) j y).1 in omega (arith, h.1)), not-true (t.used u j) (and_parts (not (live p t u j)) (not (t.used u j)) (one_of-filter b (indexes p) j y).0).1)
    ]
