-- The lists that marks stand for, one number longer.
use Rattle.std.specs.Prelude.{◌≡◌, ◌≢◌, ◌<◌, ◌≤◌, ℕ, ◌+◌, ◌==◌, Bool, true, false, cond, List, [], ◌∷◌, ◌++◌, not, replicate, slice_index_or, unwrap_or, Option, None}
use Rattle.std.specs.List.{flat_map, find}
use Rattle.std.proofs.Common.{zero, suc, arith, refl, sym, ap, subst, ◌∙◌, append_assoc, add-one}
use Rattle.std.proofs.lemmas.Bool.{ne_eqb, eq-eqb}
use Rattle.std.proofs.lemmas.List.{append-nil, length-replicate}
use Rattle.std.proofs.lemmas.List.Concat.{flat_map-append}
use Rattle.ob_base.specs.declared.params.Params.{Params}
use Rattle.ob_base.specs.Tree.{below}
use Rattle.ob_tables.proofs.VersionLaws.{range_up}
use Rattle.ob_tables.proofs.Counting.{count_by-range_more, find-range_more, find-range_at}
use Rattle.ob_check.specs.Fields.{number_in, rank_in, mark_in, index_place}
use Rattle.ob_check.specs.Rules.{numbers_in, placed_in, placed_before, ranks_in, shown_in, is_among}
use Rattle.ob_check.specs.Marks.{AreMarked}
use Rattle.ob_check.proofs.Ranges.{map_up}

pub before_more : (p : Params) (bytes : List ℕ) (u j : ℕ) → placed_before p bytes u j ++ number_in p bytes u j ∷ [] ≡ placed_before p bytes u (j + 1)
before_more p bytes u j = append_assoc (placed_in p bytes u) (numbers_in p bytes u j) (number_in p bytes u j ∷ []) ∙ ap (λ (xs : List ℕ). placed_in p bytes u ++ xs) (sym (map_up (number_in p bytes u) j))

pub before_none : (p : Params) (bytes : List ℕ) (u : ℕ) → placed_before p bytes u 0 ≡ placed_in p bytes u
before_none p bytes u = append-nil (placed_in p bytes u)

pub before_all : (p : Params) (bytes : List ℕ) (u : ℕ) → placed_before p bytes u p.real ≡ placed_in p bytes (u + 1)
before_all p bytes u =
    sym (ap (flat_map (λ v. numbers_in p bytes v p.real)) (range_up u) ∙ flat_map-append (λ v. numbers_in p bytes v p.real) (below u) (u ∷ [])
    ∙ ap (λ (xs : List ℕ). placed_in p bytes u ++ xs) (append-nil (numbers_in p bytes u p.real)))

pub ranks_more : (p : Params) (bytes : List ℕ) (u i : ℕ) → ranks_in p bytes u i ++ rank_in p bytes u i ∷ [] ≡ ranks_in p bytes u (i + 1)
ranks_more p bytes u i = sym (map_up (rank_in p bytes u) i)

pub shown_more : (p : Params) (bytes : List ℕ) (u i : ℕ) → shown_in p bytes u (i + 1) ≡ shown_in p bytes u i + cond (mark_in p bytes u i == 1) 1 0
shown_more p bytes u i = count_by-range_more (λ n. mark_in p bytes u n == 1) i

pub marked_as : (n : ℕ) (marks : List Bool) (xs ys : List ℕ) → xs ≡ ys → AreMarked n marks xs → AreMarked n marks ys
marked_as n marks xs ys e m = subst (λ (zs : List ℕ). AreMarked n marks zs) e m

-- ---- the least number that passes a test

module _ (q : ℕ → Bool) where
  pub search_more : (n : ℕ) → find q (below n) ≡ None → q n ≡ false → find q (below (n + 1)) ≡ None
  search_more n none off = rw add-one (find-range_more q 0 n n (omega arith) none off)

  pub least_found : (m n d : ℕ) → n < m → find q (below n) ≡ None → q n ≡ true → n ≡ unwrap_or (find q (below m)) d
  least_found m n d lt none on = sym (ap (λ (o : Option ℕ). unwrap_or o d) (find-range_at q 0 n m n (omega arith) lt none on))

  pub least_none : (m n d : ℕ) → m ≤ n → n ≤ m → find q (below n) ≡ None → d ≡ unwrap_or (find q (below m)) d
  least_none m n d le ge none = let same : m ≡ n = omega arith in sym (ap (λ (o : Option ℕ). unwrap_or o d) (ap (λ i. find q (below i)) same ∙ none))

pub free : (n : ℕ) (marks : List Bool) (xs : List ℕ) (k : ℕ) → k < n → AreMarked n marks xs → slice_index_or marks k false ≡ false → not (is_among xs k) ≡ true
free n marks xs k lt m off = ap not (sym (m.each k lt) ∙ off)

pub taken : (n : ℕ) (marks : List Bool) (xs : List ℕ) (k : ℕ) → k < n → AreMarked n marks xs → slice_index_or marks k false ≡ true → not (is_among xs k) ≡ false
taken n marks xs k lt m on = ap not (sym (m.each k lt) ∙ on)

module _ (p : Params) (bytes : List ℕ) (u i place n : ℕ) (at : place ≡ index_place p u i) (is : n ≡ shown_in p bytes u i) where
  pub one_shown : slice_index_or bytes (place + 1) 0 ≡ 1 → n + 1 ≡ shown_in p bytes u (i + 1)
  one_shown on =
      let mark : mark_in p bytes u i ≡ 1 = ap (λ m. slice_index_or bytes (m + 1) 0) (sym at) ∙ on in
      ap (λ m. m + 1) is ∙ sym (shown_more p bytes u i ∙ ap (λ (b : Bool). shown_in p bytes u i + cond b 1 0) (eq-eqb (mark_in p bytes u i) 1 mark))

  pub none_shown : slice_index_or bytes (place + 1) 0 ≢ 1 → n ≡ shown_in p bytes u (i + 1)
  none_shown off =
      let mark : mark_in p bytes u i ≢ 1 = λ e. off (ap (λ m. slice_index_or bytes (m + 1) 0) at ∙ e) in
      let same : shown_in p bytes u i + 0 ≡ shown_in p bytes u i = omega arith in
      is ∙ sym (shown_more p bytes u i ∙ ap (λ (b : Bool). shown_in p bytes u i + cond b 1 0) (ne_eqb (mark_in p bytes u i) 1 mark) ∙ same)

none_at : (n k : ℕ) → slice_index_or (replicate n false) k false ≡ false
none_at zero k = refl
none_at (suc n) zero = refl
none_at (suc n) (suc k) = none_at n k

pub marked_none : (n : ℕ) → AreMarked n (replicate n false) []
marked_none n = record { many = length-replicate {A = Bool} n false; each = λ k lt. none_at n k }
