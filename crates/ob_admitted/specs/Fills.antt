-- What fills the holes of all epochs of a life.
use Rattle.std.specs.Prelude.{◌≡◌, ℕ, List}
use Rattle.ob_base.specs.Repeats.{Has}
use Rattle.ob_base.specs.Tree.{width}
use Rattle.ob_base.specs.declared.params.Params.{Params}
use Rattle.ob_tables.specs.Rank.{IsRanking}
use Rattle.ob_recover.specs.Life.{WordId, LifeAct, LifeState, LabelFill, SlotFill, IsLife, formatted_life, leaf_of_word, life_labels, life_slots, planned_labels, planned_slots, reached}
use Rattle.ob_histories.specs.Fills.{AllFills, AreAllFills}

-- each label shows its place's leaf, and each read its version's slot
pub record FillsAll (p : Params) (word_of : WordId → ℕ) (f : AllFills) (labels : List LabelFill) (slots : List SlotFill) : Type 0 where
  pub leaves : (l : LabelFill) → Has labels l → f.leaf l.epoch l.batch l.place ≡ leaf_of_word p word_of l.word
  pub slots_are : (x : SlotFill) → Has slots x → f.slot x.bucket x.version x.number ≡ x.slot

-- of what its acts have shown, and of all that the running epoch's attempts may show
pub record HasFills (p : Params) (word_of : WordId → ℕ) (s : LifeState) (acts : List LifeAct) : Type 0 where
  pub fills : AllFills
  pub are : AreAllFills p fills
  pub shown : FillsAll p word_of fills (life_labels p word_of s acts) (life_slots p word_of s acts)
  pub planned : FillsAll p word_of fills (planned_labels p word_of (reached p word_of s acts)) (planned_slots p word_of (reached p word_of s acts))

abbrev pub LivesHaveFills : Type 0
LivesHaveFills = (p : Params) (word_of : WordId → ℕ) (slot : ℕ → ℕ → ℕ) (acts : List LifeAct) → ((u : ℕ) → IsRanking (width p) (slot u)) → IsLife p word_of (formatted_life slot) acts → HasFills p word_of (formatted_life slot) acts
