-- The words of all versions that buckets had: a block of words each, no two with one word, and none that a label shows or a key holds.
use Rattle.std.specs.Prelude.{◌≡◌, ℕ, ◌<◌, ◌≤◌, List}
use Rattle.std.specs.declared.option.Option.TheVariants.{Some}
use Rattle.ob_base.specs.declared.params.Params.{Params}
use Rattle.ob_base.specs.Repeats.{Has}
use Rattle.ob_base.specs.Tree.{buckets, width}
use Rattle.ob_recover.specs.Life.{WordId, LifeState, LabelFill, book_now, planned_labels}
use Rattle.ob_recover.proofs.LabelLaws.{IsOlder}
use Rattle.ob_fresh.specs.Drawn.{WordsKept, AreRanksFrom, words_on}

pub record Block : Type 0 where
  pub version : ℕ
  pub bucket : ℕ
  pub first : WordId
  pub slot : ℕ → ℕ

-- that of a bucket's present version
abbrev pub block_now : LifeState → WordsKept → ℕ → Block
block_now s k u = record { version = s.content.version u; bucket = u; first = k.first u; slot = s.content.slot u }

-- no block of so many words has this one
abbrev pub IsFree : ℕ → List Block → WordId → Type 0
IsFree n bs w = (b : Block) → Has bs b → (j : ℕ) → j < n → w ≡ words_on b.first j → ⊥

-- two blocks that have a word in common are one
abbrev pub AreApart : ℕ → List Block → Type 0
AreApart n bs = (b c : Block) → Has bs b → Has bs c → (i j : ℕ) → i < n → j < n → words_on b.first i ≡ words_on c.first j → (b ≡ c) × (i ≡ j)

module _ (p : Params) (word_of : WordId → ℕ) where
  -- each has the ranks of its words as slots
  abbrev pub AreRanked : List Block → Type 0
  AreRanked bs = (b : Block) → Has bs b → AreRanksFrom p word_of b.slot b.first

  pub record AreBlocksOf (s : LifeState) (k : WordsKept) (bs : List Block) : Type 0 where
    pub drawn : s.drawn ≤ k.drawn
    pub old : (b : Block) → Has bs b → (j : ℕ) → j < width p → IsOlder (words_on b.first j) s.generation k.drawn
    pub apart : AreApart (width p) bs
    pub ranks : AreRanked bs
    pub present : (u : ℕ) → u < buckets p → Has bs (block_now s k u)
    pub held : (key : ℕ) (w : WordId) → book_now p word_of s key ≡ Some w → IsFree (width p) bs w
    pub shown : (l : LabelFill) → Has (planned_labels p word_of s) l → IsFree (width p) bs l.word
