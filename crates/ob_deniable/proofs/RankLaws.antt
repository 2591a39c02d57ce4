-- Ranks move along with words that have no tie; and over all words they can't.
use Rattle.std.specs.Prelude.{◌≡◌, ℕ, ◌+◌, ◌<◌, nat_lt, List, [], ◌∷◌, length, slice_index}
use Rattle.std.specs.List.{count_by, range_with_len}
use Rattle.std.proofs.Common.{zero, suc, arith, refl, sym, ap, ◌∙◌}
use Rattle.std.proofs.lemmas.Bool.Decides.{nat_tests}
use Rattle.std.proofs.lemmas.List.FromFn.{length-map-range_with_len, get_or-map-range_with_len}
use Rattle.ob_tables.specs.Rank.{comes_before, rank, ranks_of}
use Rattle.ob_deniable.specs.Moved.{HasNoTie, PermutesBelow, AreMoved, RankingsMove, AreTwoBelow, two_ranks, TiesTell}
use Rattle.ob_deniable.proofs.Counts.{count_permuted, count_same, range_has}

-- where equal words stand at one index, the words alone decide
before_alone : (v i w j : ℕ) → (v ≡ w → i ≡ j) → comes_before v i w j ≡ nat_lt v w
before_alone v i w j h = grind (arith, nat_tests, h)

rank_alone : (words : List ℕ) (j : ℕ) → HasNoTie words → j < length words → rank words j ≡ count_by (λ i. nat_lt (slice_index words i) (slice_index words j)) (range_with_len 0 (length words))
rank_alone words j none h = count_same _ _ (range_with_len 0 (length words)) (λ i k. (
    let w = range_has 0 (length words) i k in
    let hi : i < 0 + length words = w.1 in
    before_alone (slice_index words i) i (slice_index words j) j (none i j (omega arith) h)))

pub long_ranks : (words : List ℕ) → length (ranks_of words) ≡ length words
long_ranks words = length-map-range_with_len (rank words) 0 (length words)

module _ (words moved : List ℕ) (to from : ℕ → ℕ) (m : PermutesBelow (length words) to from) (none : HasNoTie words) (along : AreMoved from words moved) where
  no_tie : HasNoTie moved
  no_tie i j h k e =
      let long : length moved ≡ length words = along.0 in
      let hi : i < length words = omega arith in
      let hj : j < length words = omega arith in
      sym (m.back i hi) ∙ ap to (none (from i) (from j) (m.from_within i hi) (m.from_within j hj) (sym (along.1 i hi) ∙ e ∙ along.1 j hj)) ∙ m.back j hj

  rank_moved : (j : ℕ) → j < length words → rank moved j ≡ rank words (from j)
  rank_moved j h =
      let long : length moved ≡ length words = along.0 in
      let n : ℕ = length words in
      let hm : j < length moved = omega arith in
      rank_alone moved j no_tie hm
      ∙ ap (λ (k : ℕ). count_by (λ i. nat_lt (slice_index moved i) (slice_index moved j)) (range_with_len 0 k)) long
      ∙ count_same (λ i. nat_lt (slice_index moved i) (slice_index moved j)) (λ i. nat_lt (slice_index words (from i)) (slice_index words (from j))) (range_with_len 0 n) (λ i k. (
      let w = range_has 0 n i k in
      let hi : i < 0 + n = w.1 in
      let at : slice_index moved i ≡ slice_index words (from i) = along.1 i (omega arith) in
      let at_j : slice_index moved j ≡ slice_index words (from j) = along.1 j h in
      λ t. nat_lt (at t) (at_j t)))
      ∙ count_permuted (λ i. nat_lt (slice_index words i) (slice_index words (from j))) n to from m
      ∙ sym (rank_alone words (from j) none (m.from_within j h))

  at_ranks : (ws : List ℕ) (j : ℕ) → j < length ws → slice_index (ranks_of ws) j ≡ rank ws j
  at_ranks ws j h = get_or-map-range_with_len (rank ws) 0 (length ws) j j 0 h (omega arith)

  moved_along : AreMoved from (ranks_of words) (ranks_of moved)
  moved_along = (
    long_ranks moved ∙ along.0 ∙ sym (long_ranks words),
    λ j h. (
        let long : length (ranks_of words) ≡ length words = long_ranks words in
        let same : length moved ≡ length words = along.0 in
        let hj : j < length words = omega arith in
        at_ranks moved j (omega arith) ∙ rank_moved j hj ∙ sym (at_ranks words (from j) (m.from_within j hj))),
  )

pub rankings_move : RankingsMove
rankings_move words moved to from m none along = (no_tie words moved to from m none along, moved_along words moved to from m none along)

-- ---- over all words

differ : (a b : ℕ) (xs ys : List ℕ) → a ∷ xs ≡ b ∷ ys → a ≡ b
differ a b xs ys e = cc

-- of two words below 2 one pair alone gives the second order
only_one : (v w : ℕ) → v < 2 → w < 2 → two_ranks (v, w) ≡ 1 ∷ 0 ∷ [] → ◌≡◌ {A = ℕ × ℕ} (v, w) (1, 0)
only_one zero zero h k e = absurd (let x : 0 ≡ 1 = differ 0 1 (1 ∷ []) (0 ∷ []) e in omega arith)
only_one zero (suc zero) h k e = absurd (let x : 0 ≡ 1 = differ 0 1 (1 ∷ []) (0 ∷ []) e in omega arith)
only_one (suc zero) zero h k e = refl
only_one (suc zero) (suc zero) h k e = absurd (let x : 0 ≡ 1 = differ 0 1 (1 ∷ []) (0 ∷ []) e in omega arith)
only_one (suc (suc v)) w h k e = absurd (omega arith)
only_one v (suc (suc w)) h k e = absurd (omega arith)

pub ties_tell : TiesTell
ties_tell to from within undone leads =
    let low : AreTwoBelow 2 (0, 0) = (omega arith, omega arith) in
    let up : AreTwoBelow 2 (0, 1) = (omega arith, omega arith) in
    let first : to (0, 0) ≡ (1, 0) = only_one (to (0, 0)).0 (to (0, 0)).1 (within (0, 0) low).0 (within (0, 0) low).1 (leads (0, 0) low refl) in
    let second : to (0, 1) ≡ (1, 0) = only_one (to (0, 1)).0 (to (0, 1)).1 (within (0, 1) up).0 (within (0, 1) up).1 (leads (0, 1) up refl) in
    let same : ◌≡◌ {A = ℕ × ℕ} (0, 0) (0, 1) = sym (undone (0, 0) low) ∙ ap from (first ∙ sym second) ∙ undone (0, 1) up in
    let bad : ◌≡◌ {A = ℕ} 0 1 = ap (λ (q : ℕ × ℕ). q.1) same in
    omega arith
