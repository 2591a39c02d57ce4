-- What is seen is all that fills the holes: with their names, which the shape and the leaves decide.
use Rattle.std.specs.Prelude.{◌≡◌, ℕ, ◌+◌, ◌<◌, List, [], ◌∷◌, map}
use Rattle.ob_tables.specs.Rank.{IsRanking}
use Rattle.ob_base.specs.declared.params.Params.{Params}
use Rattle.ob_recover.specs.Life.{WordId, LifeAct, LifeState, LabelFill, SlotFill, labels_shown, slots_shown, life_step, leaf_of_word, formatted_life}
use Rattle.ob_deniable.specs.Works.{LifeWork, VersionSlots, SameShape, IsLifeOf, acts_of, seen_of_work}

-- a label hole, and the leaf that it shows
pub record LeafFill : Type 0 where
  pub epoch : ℕ
  pub batch : ℕ
  pub place : ℕ
  pub leaf : ℕ

-- the holes that an act fills, and with what
pub record ActFills : Type 0 where
  pub leaves : List LeafFill
  pub slots : List SlotFill

-- act by act, in order: of any acts, and of a work from a format on
module _ (p : Params) (word_of : WordId → ℕ) where
  abbrev pub leaf_fill : LabelFill → LeafFill
  leaf_fill l = record { epoch = l.epoch; batch = l.batch; place = l.place; leaf = leaf_of_word p word_of l.word }

  abbrev pub fills_of_acts : LifeState → List LifeAct → List ActFills
  fills_of_acts s [] = []
  fills_of_acts s (a ∷ rest) = record { leaves = map leaf_fill (labels_shown p word_of s a); slots = slots_shown p word_of s a } ∷ fills_of_acts (life_step p word_of s a) rest

  abbrev pub fills_of_work : VersionSlots → List LifeWork → List ActFills
  fills_of_work slots work = fills_of_acts (formatted_life (slots 0)) (acts_of 0 slots work)

-- the format's slots are rankings
abbrev pub IsFormatRanked : Params → VersionSlots → Type 0
IsFormatRanked p slots = (u : ℕ) → IsRanking (p.real + p.dummies) (slots 0 u)

-- Two lives of one shape of which the same is seen fill the same holes with the same, act by act.
abbrev pub SeenIsAll : Type 0
SeenIsAll = (p : Params) (one other : List LifeWork) (word_of other_word_of : WordId → ℕ) (slots other_slots : VersionSlots) → 0 < p.dummies → SameShape one other → IsFormatRanked p slots → IsFormatRanked p other_slots →
    IsLifeOf p word_of slots one → IsLifeOf p other_word_of other_slots other → seen_of_work p word_of slots one ≡ seen_of_work p other_word_of other_slots other → fills_of_work p word_of slots one ≡ fills_of_work p other_word_of other_slots other

-- Every list of acts is a work's, with the slots that its ends fill with.
abbrev pub LivesAreWorks : Type 0
LivesAreWorks = (slot : ℕ → ℕ → ℕ) (acts : List LifeAct) → (work : List LifeWork) × (slots : VersionSlots) × (slots 0 ≡ slot) × (acts_of 0 slots work ≡ acts)
