-- One tape for all that a store's runs draw, and other works that it could have been drawn for.
use Rattle.std.specs.Prelude.{◌≡◌, ℕ, ◌+◌, ◌*◌, ◌<◌, ◌≤◌, true, List, [], ◌∷◌, length, ⊤}
use Rattle.ob_base.specs.declared.params.Params.{Params}
use Rattle.ob_base.specs.Tree.{buckets, width}
use Rattle.ob_deniable.specs.Moved.{HasNoTie, Undo}
use Rattle.ob_deniable.specs.Telling.{ActFills, IsFormatRanked, fills_of_work}
use Rattle.ob_deniable.specs.Works.{LifeWork, Opens, Logs, Shows, Lifts, Ends, VersionSlots, SameShape, IsLifeOf, acts_of, words_moved}
use Rattle.ob_fresh.specs.Drawn.{AreNextPuts, AreWordsInTurn, WordsKept, formatted_words, version_words, words_step}
use Rattle.ob_recover.specs.Life.{WordId, LifeAct, Open, Append, ShowBatch, ShowLifts, End, LifeState, formatted_life, is_table_lifted, life_step}

-- ---- ties

-- no two words of the version that begins with this one are equal
abbrev pub IsUntied : Params → (WordId → ℕ) → WordId → Type 0
IsUntied p tape first = HasNoTie (version_words p tape first)

module _ (p : Params) (tape : WordId → ℕ) where
  -- of the buckets that each end fills anew
  abbrev pub EndsUntied : LifeState → WordsKept → List LifeAct → Type 0
  EndsUntied s k [] = ⊤
  EndsUntied s k (Open g ∷ rest) = EndsUntied (life_step p tape s (Open g)) (words_step p tape s k (Open g)) rest
  EndsUntied s k (Append r ∷ rest) = EndsUntied (life_step p tape s (Append r)) (words_step p tape s k (Append r)) rest
  EndsUntied s k (ShowBatch ∷ rest) = EndsUntied (life_step p tape s ShowBatch) k rest
  EndsUntied s k (ShowLifts ∷ rest) = EndsUntied (life_step p tape s ShowLifts) k rest
  EndsUntied s k (End ws drawn slot ∷ rest) = ((u : ℕ) → is_table_lifted p tape s u ≡ true → IsUntied p tape ((words_step p tape s k (End ws drawn slot)).first u))
      × EndsUntied (life_step p tape s (End ws drawn slot)) (words_step p tape s k (End ws drawn slot)) rest

  -- and of the format's
  pub record AreVersionsUntied (slot : ℕ → ℕ → ℕ) (acts : List LifeAct) : Type 0 where
    pub format : (u : ℕ) → u < buckets p → IsUntied p tape ((formatted_words p).first u)
    pub ends : EndsUntied (formatted_life slot) (formatted_words p) acts

-- ---- the other work

-- Behind so many words of a generation: an end has no more writes than an epoch may have, and the i-th one's put keeps the i-th word that the
-- end draws.
abbrev pub ArePutsNext : Params → (generation drawn : ℕ) → List LifeWork → Type 0
ArePutsNext p g n [] = ⊤
ArePutsNext p g n (Opens h ∷ rest) = ArePutsNext p h 0 rest
ArePutsNext p g n (Logs asks first ∷ rest) = ArePutsNext p g (n + length asks) rest
ArePutsNext p g n (Shows ∷ rest) = ArePutsNext p g n rest
ArePutsNext p g n (Lifts ∷ rest) = ArePutsNext p g n rest
ArePutsNext p g n (Ends writes drawn ∷ rest) = (length writes ≤ p.writes) × AreNextPuts (record { generation = g; place = n }) writes × ArePutsNext p g drawn rest

-- behind a format, which draws a word for each slot
abbrev pub ArePutsInTurn : Params → List LifeWork → Type 0
ArePutsInTurn p work = ArePutsNext p 1 (buckets p * width p) work

-- ---- the law

-- On this tape the work is a life that draws its words in turn, with the ranks of these as slots, none of them tied.
pub record IsDoneOn (p : Params) (tape : WordId → ℕ) (slots : VersionSlots) (work : List LifeWork) : Type 0 where
  pub ranked : IsFormatRanked p slots
  pub is_life : IsLifeOf p tape slots work
  pub turn : AreWordsInTurn p tape (slots 0) (acts_of 0 slots work)
  pub untied : AreVersionsUntied p tape (slots 0) (acts_of 0 slots work)

-- It is done too where the same words stand at other places of the tape, and fills the same.
pub record CouldBeDone (p : Params) (tape : WordId → ℕ) (work : List LifeWork) (fills : List ActFills) : Type 0 where
  pub ids : WordId → WordId
  pub ids_back : WordId → WordId
  pub ids_undo : Undo ids ids_back
  pub slots : VersionSlots
  pub done : IsDoneOn p (words_moved ids_back tape) slots work
  pub same : fills ≡ fills_of_work p (words_moved ids_back tape) slots work

abbrev pub TapesExchange : Type 0
TapesExchange = (p : Params) (tape : WordId → ℕ) (slots : VersionSlots) (one other : List LifeWork) → 0 < p.dummies → IsDoneOn p tape slots one → SameShape one other → ArePutsInTurn p other
    → CouldBeDone p tape other (fills_of_work p tape slots one)
