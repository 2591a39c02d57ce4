-- Sorted pairs of word and index stand at their ranks.
use Rattle.std.specs.Prelude.{◌≡◌, ℕ, ◌+◌, ◌<◌, ◌≤◌, Bool, true, false, cond, not, ◌||◌, ◌==◌, List, [], ◌∷◌, length, slice_index, map, Contains}
use Rattle.std.specs.List.{count_by, range_with_len, HoldsAt}
use Rattle.std.specs.List.Sorted.{IsPermutation, IsSorted}
use Rattle.std.specs.Cmp.{IsStrictWeakOrder, nat_cmp_total}
use Rattle.std.specs.Ordering.{is_lt, nat_cmp, ordering_then}
use Rattle.std.proofs.Common.{arith, zero, suc, refl, sym, ap, subst, ◌∙◌, get_or, All}
use Rattle.std.proofs.lemmas.Cmp.{then_total, on_total}
use Rattle.std.proofs.lemmas.Bool.{false≢true}
use Rattle.std.proofs.lemmas.Bool.Decides.{nat_tests}
use Rattle.std.proofs.lemmas.List.Sorted.{ranks_by, sorted_far, sum_by-IsPermutation, All-permutation, Contains-permutation, length_permutation}
use Rattle.std.proofs.lemmas.List.Elements.{All-get_or, All-from_get_or, Contains-get_or, at_from_Contains}
use Rattle.std.proofs.lemmas.List.FromFn.{length-map-range_with_len, get_or-map-range_with_len, fill_by_all}
use Rattle.ob_tables.specs.Rank.{comes_before, rank, ranks_of}
use Rattle.ob_tables.specs.Order.{numbered, index_at, AreApart}
use Rattle.ob_tables.proofs.Counting.{count_by-cons, one_at_most, none_of}
use Rattle.ob_tables.proofs.Ranges.{count_by-range_mark}
use Rattle.ob_tables.proofs.RankLaws.{before_itself}

-- ---- the test by which pairs are sorted

abbrev pub is_less : ℕ × ℕ → ℕ × ℕ → Bool
is_less x y = is_lt (ordering_then (nat_cmp x.0 y.0) (nat_cmp x.1 y.1))

pub less_is_weak : IsStrictWeakOrder is_less
less_is_weak = ranks_by (then_total (on_total (λ (p : ℕ × ℕ). p.0) nat_cmp_total) (on_total (λ (p : ℕ × ℕ). p.1) nat_cmp_total)) (λ (p : ℕ × ℕ). p)

pub less_is : (v i w j : ℕ) → is_less (v, i) (w, j) ≡ comes_before v i w j
less_is v i w j = grind (arith, nat_tests)

-- ---- counts by places

some_of : (a : Bool) → a ≡ true → ◌≡◌ {A = ℕ} (cond a 1 0) 1
some_of true e = refl
some_of false e = absurd (false≢true e)

count_front : {X : Type 0} → (p : X → Bool) (xs : List X) (k : ℕ) (d : X) → k ≤ length xs → ((i : ℕ) → i < k → p (get_or xs i d) ≡ true) → k ≤ count_by p xs
count_front p xs zero d fits all = omega arith
count_front p [] (suc k) d fits all = absurd (omega arith)
count_front p (x ∷ xs) (suc k) d fits all =
    omega (arith, count_by-cons p x xs, some_of (p x) (all 0 (omega arith)), count_front p xs k d (omega arith) (λ i h. all (suc i) (omega arith)))

count_none : {X : Type 0} → (p : X → Bool) (xs : List X) (d : X) → ((i : ℕ) → i < length xs → p (get_or xs i d) ≡ false) → count_by p xs ≡ 0
count_none p [] d all = refl
count_none p (x ∷ xs) d all =
    omega (arith, count_by-cons p x xs, none_of (p x) (all 0 (omega arith)), count_none p xs d (λ i h. all (suc i) (omega arith)))

count_back : {X : Type 0} → (p : X → Bool) (xs : List X) (k : ℕ) (d : X) → ((i : ℕ) → k ≤ i → i < length xs → p (get_or xs i d) ≡ false) → count_by p xs ≤ k
count_back p [] k d all = omega arith
count_back p (x ∷ xs) zero d all = omega (arith, count_none p (x ∷ xs) d (λ i h. all i (omega arith) h))
count_back p (x ∷ xs) (suc k) d all =
    omega (arith, count_by-cons p x xs, one_at_most (p x), count_back p xs k d (λ i a h. all (suc i) (omega arith) (omega arith)))

count_map : {X Y : Type 0} → (p : Y → Bool) (f : X → Y) (xs : List X) → count_by p (map f xs) ≡ count_by (λ x. p (f x)) xs
count_map p f [] = refl
count_map p f (x ∷ xs) = count_by-cons p (f x) (map f xs) ∙ ap (λ (n : ℕ). cond (p (f x)) 1 0 + n) (count_map p f xs) ∙ sym (count_by-cons (λ x. p (f x)) x xs)

-- ---- the pairs of a list of words

abbrev pub pair_of : List ℕ → ℕ → ℕ × ℕ
pair_of words i = (slice_index words i, i)

-- a pair is one of the list's
abbrev pub IsPair : List ℕ → ℕ × ℕ → Type 0
IsPair words p = (j : ℕ) × (j < length words) × (p ≡ pair_of words j)

numbered_pairs : (words : List ℕ) → All (IsPair words) (numbered words)
numbered_pairs words = All-from_get_or (IsPair words) (numbered words) (0, 0) (λ i h. (
    let n : length (numbered words) ≡ length words = length-map-range_with_len (pair_of words) 0 (length words) in
    let k : i < length words = omega arith in
    (i, k, get_or-map-range_with_len (pair_of words) 0 (length words) i i (0, 0) k (omega arith))))

before_count : (words : List ℕ) (j : ℕ) → count_by (λ y. is_less y (pair_of words j)) (numbered words) ≡ rank words j
before_count words j = count_map (λ y. is_less y (pair_of words j)) (pair_of words) (range_with_len 0 (length words))
    ∙ ap (λ (q : ℕ → Bool). count_by q (range_with_len 0 (length words))) (λ k i. less_is (slice_index words i) i (slice_index words j) j k)

up_to : (v i w j : ℕ) → (i ≡ j → v ≡ w) → not (comes_before w j v i) ≡ ((i == j) || comes_before v i w j)
up_to v i w j same = grind (arith, nat_tests)

up_to_count : (words : List ℕ) (j : ℕ) → j < length words → count_by (λ y. not (is_less (pair_of words j) y)) (numbered words) ≡ rank words j + 1
up_to_count words j h = count_map (λ y. not (is_less (pair_of words j) y)) (pair_of words) (range_with_len 0 (length words))
    ∙ ap (λ (q : ℕ → Bool). count_by q (range_with_len 0 (length words)))
    (λ k i. (ap not (less_is (slice_index words j) j (slice_index words i) i) ∙ up_to (slice_index words i) i (slice_index words j) j (ap (λ (m : ℕ). slice_index words m))) k)
    ∙ count_by-range_mark (λ i. comes_before (slice_index words i) i (slice_index words j) j) (length words) j h (before_itself (slice_index words j) j)

-- ---- sorted pairs

pub record InOrder (words : List ℕ) (order : List (ℕ × ℕ)) : Type 0 where
  pub moved : IsPermutation (numbered words) order
  pub sorted : IsSorted (λ x y. ordering_then (nat_cmp x.0 y.0) (nat_cmp x.1 y.1)) order

module _ (words : List ℕ) (order : List (ℕ × ℕ)) (o : InOrder words order) where
  pub as_many : length order ≡ length words
  as_many = length_permutation (numbered words) order o.moved ∙ length-map-range_with_len (pair_of words) 0 (length words)

  pub pair_at : (k : ℕ) → k < length order → IsPair words (get_or order k (0, 0))
  pair_at k h = All-get_or (IsPair words) order k (0, 0) h (All-permutation (IsPair words) (numbered words) order o.moved (numbered_pairs words))

  pub index_is : (k : ℕ) (h : k < length order) → (index_at order k < length words) × (get_or order k (0, 0) ≡ pair_of words (index_at order k))
  index_is k h =
      let p : IsPair words (get_or order k (0, 0)) = pair_at k h in
      let same : index_at order k ≡ p.0 = ap (λ (q : ℕ × ℕ). q.1) p.2 in
      ((let low : p.0 < length words = p.1 in omega arith), p.2 ∙ ap (pair_of words) (sym same))

  -- a pair's place is the rank of its index
  pub place_is_rank : (k : ℕ) → k < length order → rank words (index_at order k) ≡ k
  place_is_rank k h =
      let j : ℕ = index_at order k in
      let is : (j < length words) × (get_or order k (0, 0) ≡ pair_of words j) = index_is k h in
      let low : count_by (λ y. is_less y (pair_of words j)) order ≤ k = count_back (λ y. is_less y (pair_of words j)) order k (0, 0)
      (λ i a b. subst (λ (q : ℕ × ℕ). is_less (get_or order i (0, 0)) q ≡ false) is.1 (sorted_far is_less less_is_weak order o.sorted k i (0, 0) a b)) in
      let high : k + 1 ≤ count_by (λ y. not (is_less (pair_of words j) y)) order = count_front (λ y. not (is_less (pair_of words j) y)) order (k + 1) (0, 0) (omega arith)
      (λ i a. ap not (subst (λ (q : ℕ × ℕ). is_less q (get_or order i (0, 0)) ≡ false) is.1 (sorted_far is_less less_is_weak order o.sorted i k (0, 0) (omega arith) h))) in
      omega (
        arith,
        sum_by-IsPermutation (λ (y : ℕ × ℕ). cond (is_less y (pair_of words j)) 1 0) (numbered words) order o.moved,
        sum_by-IsPermutation (λ (y : ℕ × ℕ). cond (not (is_less (pair_of words j) y)) 1 0) (numbered words) order o.moved,
        before_count words j,
        up_to_count words j is.0,
      )

  pub are_apart : AreApart order
  are_apart i j h k e = sym (place_is_rank i h) ∙ ap (λ (m : ℕ). rank words m) e ∙ place_is_rank j k

  -- each index has its place
  index_found : (j : ℕ) → j < length words → (k : ℕ) × (k < length order) × (index_at order k ≡ j)
  index_found j h =
      let n : length (numbered words) ≡ length words = length-map-range_with_len (pair_of words) 0 (length words) in
      let is : get_or (numbered words) j (0, 0) ≡ pair_of words j = get_or-map-range_with_len (pair_of words) 0 (length words) j j (0, 0) h (omega arith) in
      let here : Contains (numbered words) (pair_of words j) = subst (λ (p : ℕ × ℕ). Contains (numbered words) p) is (Contains-get_or (numbered words) j (0, 0) (omega arith)) in
      let there : (k : ℕ) × (k < length order) × HoldsAt (λ y. y ≡ pair_of words j) order k = at_from_Contains order (pair_of words j) (Contains-permutation (numbered words) order (pair_of words j) o.moved here) in
      (there.0, there.1, ap (λ (p : ℕ × ℕ). p.1) (there.2 (0, 0)))

  -- what has each pair's place at its index has the ranks
  pub placed : (out : List ℕ) → length out ≡ length words → ((k : ℕ) → k < length order → slice_index out (index_at order k) ≡ k) → out ≡ ranks_of words
  placed out n at = fill_by_all (λ j. rank words j) out (length words) 0 n (λ j h. (
      let f : (k : ℕ) × (k < length order) × (index_at order k ≡ j) = index_found j h in
      ap (λ (m : ℕ). slice_index out m) (sym f.2) ∙ at f.0 f.1 ∙ sym (place_is_rank f.0 f.1) ∙ ap (λ (m : ℕ). rank words m) f.2))
