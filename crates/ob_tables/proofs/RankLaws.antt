-- Ranks are a permutation.
use Rattle.std.specs.Prelude.{◌≡◌, ℕ, ◌<◌, Bool, true, false, List, length, slice_index}
use Rattle.std.specs.List.{range_with_len}
use Rattle.std.proofs.Common.{arith, refl, get_or}
use Rattle.std.proofs.lemmas.Bool.Decides.{nat_tests}
use Rattle.std.proofs.lemmas.List.FromFn.{length-range_with_len, get_or-range_with_len}
use Rattle.ob_tables.specs.Rank.{comes_before, rank, IsRanking}
use Rattle.ob_tables.proofs.Counting.{count_by-lt, count_by-lt-length, onto_of_apart}

pub before_itself : (v i : ℕ) → comes_before v i v i ≡ false
before_itself v i = grind (arith, nat_tests)

before_trans : (u i v j w k : ℕ) → comes_before v j w k ≡ true → comes_before u i v j ≡ true → comes_before u i w k ≡ true
before_trans u i v j w k a b = grind (arith, nat_tests)

before_one : (v i w j : ℕ) → comes_before v i w j ≡ false → comes_before w j v i ≡ false → i ≡ j
before_one v i w j a b = grind (arith, nat_tests)

pub rank_within : (words : List ℕ) (j : ℕ) → j < length words → rank words j < length words
rank_within words j h =
    let r : List ℕ = range_with_len 0 (length words) in
    let at : get_or r j 0 ≡ j = omega (arith, get_or-range_with_len 0 (length words) j 0 h) in
    let long : length r ≡ length words = length-range_with_len 0 (length words) in
    omega (arith, count_by-lt-length (λ i. comes_before (slice_index words i) i (slice_index words j) j) r j 0 (omega arith) (rw at (before_itself (slice_index words j) j)))

pub rank_lt : (words : List ℕ) (i j : ℕ) → i < length words → comes_before (slice_index words i) i (slice_index words j) j ≡ true → rank words i < rank words j
rank_lt words i j h is =
    let r : List ℕ = range_with_len 0 (length words) in
    let at : get_or r i 0 ≡ i = omega (arith, get_or-range_with_len 0 (length words) i 0 h) in
    let long : length r ≡ length words = length-range_with_len 0 (length words) in
    count_by-lt (λ m. comes_before (slice_index words m) m (slice_index words i) i) (λ m. comes_before (slice_index words m) m (slice_index words j) j)
    (λ m. before_trans (slice_index words m) m (slice_index words i) i (slice_index words j) j is) r i 0 (omega arith)
    (rw at (before_itself (slice_index words i) i)) (rw at is)

same_rank : (words : List ℕ) (i j : ℕ) → i < length words → j < length words → rank words i ≡ rank words j → (a b : Bool) → comes_before (slice_index words i) i (slice_index words j) j ≡ a → comes_before (slice_index words j) j (slice_index words i) i ≡ b → i ≡ j
same_rank words i j h k e true b p q = absurd (omega (arith, rank_lt words i j h p))
same_rank words i j h k e false true p q = absurd (omega (arith, rank_lt words j i k q))
same_rank words i j h k e false false p q = before_one (slice_index words i) i (slice_index words j) j p q

pub rank_apart : (words : List ℕ) (i j : ℕ) → i < length words → j < length words → rank words i ≡ rank words j → i ≡ j
rank_apart words i j h k e = same_rank words i j h k e _ _ refl refl

pub ranks_are_ranking : (words : List ℕ) → IsRanking (length words) (rank words)
ranks_are_ranking words = record {
  within = rank_within words;
  apart = rank_apart words;
  onto = onto_of_apart (length words) (rank words) (rank_within words) (rank_apart words);
}
