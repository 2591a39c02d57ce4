-- No word is shown in two holes.
use Rattle.std.specs.Prelude.{◌≡◌, ℕ, ◌<◌, List}
use Rattle.ob_base.specs.Repeats.{Has}
use Rattle.ob_base.specs.declared.params.Params.{Params}
use Rattle.ob_base.specs.Tree.{width}
use Rattle.ob_tables.specs.Rank.{IsRanking, rank}
use Rattle.ob_recover.specs.Life.{WordId, LifeAct, IsLife, SlotFill, formatted_life}
use Rattle.ob_fresh.specs.Drawn.{WordFill, SlotWord, id_shown, formatted_words, words_on, version_words, AreWordsInTurn, life_words}

-- the slot is the rank of this word among those of its bucket's version
pub record IsRankOf (p : Params) (word_of : WordId → ℕ) (slot : ℕ) (word : WordId) : Type 0 where
  pub first : WordId
  pub index : ℕ
  pub within : index < width p
  pub is_word : word ≡ words_on first index
  pub is_rank : slot ≡ rank (version_words p word_of first) index

-- Of all holes that were filled, labels and slots, two that show one word are one hole, filled with the same; and what a slot's hole shows is
-- its word's rank.
pub record WordsAreApart (p : Params) (word_of : WordId → ℕ) (fills : List WordFill) : Type 0 where
  pub apart : (x y : WordFill) → Has fills x → Has fills y → id_shown x ≡ id_shown y → x ≡ y
  pub ranks : (f : SlotFill) (word : WordId) → Has fills (SlotWord f word) → IsRankOf p word_of f.slot word

-- Over a life from a format on, of any number of runs, crashes and repeats, whose words are drawn in turn and whose slots are their ranks.
abbrev pub NoWordTwice : Type 0
NoWordTwice = (p : Params) (word_of : WordId → ℕ) (slot : ℕ → ℕ → ℕ) (acts : List LifeAct) → 0 < p.dummies → ((u : ℕ) → IsRanking (width p) (slot u)) →
    IsLife p word_of (formatted_life slot) acts → AreWordsInTurn p word_of slot acts → WordsAreApart p word_of (life_words p word_of (formatted_life slot) (formatted_words p) acts)
