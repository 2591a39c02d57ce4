-- Permutations of indexes, and how ranks go with words: moved along where no two words are equal.
use Rattle.std.specs.Prelude.{◌≡◌, ℕ, ◌<◌, List, [], ◌∷◌, length, slice_index}
use Rattle.ob_tables.specs.Rank.{ranks_of}

-- two functions that undo each other
pub record Undo {A : Type 0} (to from : A → A) : Type 0 where
  pub there : (x : A) → from (to x) ≡ x
  pub back : (x : A) → to (from x) ≡ x

-- a permutation of the indexes below n, and its inverse
pub record PermutesBelow (n : ℕ) (to from : ℕ → ℕ) : Type 0 where
  pub to_within : (j : ℕ) → j < n → to j < n
  pub from_within : (j : ℕ) → j < n → from j < n
  pub there : (j : ℕ) → j < n → from (to j) ≡ j
  pub back : (j : ℕ) → j < n → to (from j) ≡ j

-- no two words are equal
abbrev pub HasNoTie : List ℕ → Type 0
HasNoTie words = (i j : ℕ) → i < length words → j < length words → slice_index words i ≡ slice_index words j → i ≡ j

-- a row moved along: what was at `from j` is at j
abbrev pub AreMoved : (ℕ → ℕ) → List ℕ → List ℕ → Type 0
AreMoved from row moved = (length moved ≡ length row) × ((j : ℕ) → j < length row → slice_index moved j ≡ slice_index row (from j))

-- Of words without a tie, moved along with their indexes, the ranks move along; and no tie comes about.
abbrev pub RankingsMove : Type 0
RankingsMove = (words moved : List ℕ) (to from : ℕ → ℕ) → PermutesBelow (length words) to from → HasNoTie words → AreMoved from words moved → HasNoTie moved × AreMoved from (ranks_of words) (ranks_of moved)

-- two words below m
abbrev pub AreTwoBelow : ℕ → ℕ × ℕ → Type 0
AreTwoBelow m words = (words.0 < m) × (words.1 < m)

-- the order of two indexes that two words give
abbrev pub two_ranks : ℕ × ℕ → List ℕ
two_ranks words = ranks_of (words.0 ∷ words.1 ∷ [])

-- Over all words it is false: of two words below 2, no one-to-one map leads those that give one order to those that give the other.
abbrev pub TiesTell : Type 0
TiesTell = (to from : ℕ × ℕ → ℕ × ℕ) → ((q : ℕ × ℕ) → AreTwoBelow 2 q → AreTwoBelow 2 (to q)) → ((q : ℕ × ℕ) → AreTwoBelow 2 q → from (to q) ≡ q) →
    ((q : ℕ × ℕ) → AreTwoBelow 2 q → two_ranks q ≡ 0 ∷ 1 ∷ [] → two_ranks (to q) ≡ 1 ∷ 0 ∷ []) → ⊥
