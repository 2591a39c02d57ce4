-- The exchange over words: where no version of a bucket has two equal words, its slots are their ranks.
use Rattle.std.specs.Prelude.{◌≡◌, ℕ, ◌+◌, List, map, length, slice_index}
use Rattle.std.specs.List.{range_with_len}
use Rattle.ob_base.specs.declared.params.Params.{Params}
use Rattle.ob_tables.specs.Rank.{ranks_of}
use Rattle.ob_recover.specs.Life.{WordId}
use Rattle.ob_deniable.specs.Moved.{HasNoTie}
use Rattle.ob_deniable.specs.Works.{LifeWork, SeenHole, VersionSlots, IsLifeOf, seen_of_work, words_moved, Exchange}

-- the words of each version of a bucket's slots
abbrev pub SlotWords : Type 0
SlotWords = (version bucket : ℕ) → List ℕ

-- as many as a bucket has slots, no two of a version equal
pub record AreUntied (p : Params) (words : SlotWords) : Type 0 where
  pub many : (v u : ℕ) → length (words v u) ≡ p.real + p.dummies
  pub no_tie : (v u : ℕ) → HasNoTie (words v u)

-- a version's slots are the ranks of its words
abbrev pub slots_of_words : SlotWords → VersionSlots
slots_of_words words v u j = slice_index (ranks_of (words v u)) j

abbrev pub slot_words_moved : ((version bucket index : ℕ) → ℕ) → SlotWords → SlotWords
slot_words_moved from words v u = map (λ j. slice_index (words v u) (from v u j)) (range_with_len 0 (length (words v u)))

-- these words are a life of the work, of which this is seen
pub record AreExchanged (p : Params) (work : List LifeWork) (seen : List (List SeenHole)) (word_of : WordId → ℕ) (words : SlotWords) : Type 0 where
  pub untied : AreUntied p words
  pub lives : IsLifeOf p word_of (slots_of_words words) work
  pub same : seen ≡ seen_of_work p word_of (slots_of_words words) work

-- Every exchange moves words whole, those of labels and those of slots: a life of the one under words without a tie gives one of the other, and no tie comes about.
abbrev pub WordsExchange : Type 0
WordsExchange = (p : Params) (one other : List LifeWork) (exchange : Exchange p one other) (word_of : WordId → ℕ) (words : SlotWords) → AreUntied p words → IsLifeOf p word_of (slots_of_words words) one →
    AreExchanged p other (seen_of_work p word_of (slots_of_words words) one) (words_moved exchange.ids_back word_of) (slot_words_moved (exchange.indexes_back word_of) words)
