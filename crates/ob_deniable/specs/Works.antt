-- Works of a store, their shape, what is seen of them, and the exchange between two of one shape.
use Rattle.std.specs.Prelude.{◌≡◌, ℕ, ◌+◌, ◌<◌, List, [], ◌∷◌, ◌++◌, map, length, Option}
use Rattle.ob_base.specs.Repeats.{Has}
use Rattle.ob_tables.specs.Rank.{IsRanking}
use Rattle.ob_base.specs.declared.params.Params.{Params}
use Rattle.ob_recover.specs.Life.{WordId, LifeAct, Open, Append, ShowBatch, ShowLifts, End, LifeState, LabelFill, SlotFill, AreDrawn, IsLife, life_labels, leaf_of_word, labels_shown, slots_shown, life_step, formatted_life}
use Rattle.ob_deniable.specs.Moved.{PermutesBelow, Undo}

-- What a life's acts say but for the effects of words: an opening, a record of what is asked for with its first word, a batch shown, lifts shown, an end.
pub data LifeWork : Type 0 where
  Opens : (generation : ℕ) → LifeWork
  Logs : (asks : List (Option ℕ)) (first : WordId) → LifeWork
  Shows : LifeWork
  Lifts : LifeWork
  Ends : (writes : List (ℕ × Option WordId)) (drawn : ℕ) → LifeWork

-- the slot of each index; a version is the epoch that filled the bucket, 0 for the format
abbrev pub VersionSlots : Type 0
VersionSlots = (version bucket index : ℕ) → ℕ

-- each index its own slot
abbrev pub own_slots : VersionSlots
own_slots v u j = j

-- the acts of a work behind this durable epoch: an end fills with the slots of the epoch that it makes durable
abbrev pub acts_of : ℕ → VersionSlots → List LifeWork → List LifeAct
acts_of e slots [] = []
acts_of e slots (Opens g ∷ rest) = Open g ∷ acts_of e slots rest
acts_of e slots (Logs asks first ∷ rest) = Append (record { asks = asks; first = first }) ∷ acts_of e slots rest
acts_of e slots (Shows ∷ rest) = ShowBatch ∷ acts_of e slots rest
acts_of e slots (Lifts ∷ rest) = ShowLifts ∷ acts_of e slots rest
acts_of e slots (Ends writes drawn ∷ rest) = End writes drawn (slots (e + 1)) ∷ acts_of (e + 1) slots rest

-- one shape: they differ at most in keys, in which places are pads, and in writes
abbrev pub HasShapeOf : LifeWork → LifeWork → Type 0
HasShapeOf (Opens g) (Opens h) = g ≡ h
HasShapeOf (Logs asks first) (Logs others start) = (length asks ≡ length others) × (first ≡ start)
HasShapeOf Shows Shows = Unit {0}
HasShapeOf Lifts Lifts = Unit {0}
HasShapeOf (Ends writes drawn) (Ends others n) = drawn ≡ n
HasShapeOf a b = ⊥

abbrev pub SameShape : List LifeWork → List LifeWork → Type 0
SameShape [] [] = Unit {0}
SameShape (a ∷ one) (b ∷ other) = HasShapeOf a b × SameShape one other
SameShape [] (b ∷ other) = ⊥
SameShape (a ∷ one) [] = ⊥

-- what the store sees of a hole: a label's leaf, or a slot's bucket, version and place
pub data SeenHole : Type 0 where
  Leaf : (leaf : ℕ) → SeenHole
  Place : (bucket version slot : ℕ) → SeenHole

module _ (p : Params) (word_of : WordId → ℕ) where
  abbrev pub seen_label : LabelFill → SeenHole
  seen_label l = Leaf (leaf_of_word p word_of l.word)

  abbrev pub seen_slot : SlotFill → SeenHole
  seen_slot f = Place f.bucket f.version f.slot

  -- act by act, in order
  abbrev pub seen_of_acts : LifeState → List LifeAct → List (List SeenHole)
  seen_of_acts s [] = []
  seen_of_acts s (a ∷ rest) = (map seen_label (labels_shown p word_of s a) ++ map seen_slot (slots_shown p word_of s a)) ∷ seen_of_acts (life_step p word_of s a) rest

  -- from a format on: whether a work is a life, and what is seen of it
  abbrev pub IsLifeOf : VersionSlots → List LifeWork → Type 0
  IsLifeOf slots work = IsLife p word_of (formatted_life (slots 0)) (acts_of 0 slots work)

  abbrev pub seen_of_work : VersionSlots → List LifeWork → List (List SeenHole)
  seen_of_work slots work = seen_of_acts (formatted_life (slots 0)) (acts_of 0 slots work)

-- The words of each end's puts are new ones of the run that it is in, all different; no word's value and no slot stands here.
abbrev pub AreWritesDrawn : Params → ℕ → ℕ → List LifeWork → Type 0
AreWritesDrawn p g n [] = Unit {0}
AreWritesDrawn p g n (Opens h ∷ rest) = AreWritesDrawn p h 0 rest
AreWritesDrawn p g n (Logs asks first ∷ rest) = AreWritesDrawn p g (first.place + length asks) rest
AreWritesDrawn p g n (Shows ∷ rest) = AreWritesDrawn p g n rest
AreWritesDrawn p g n (Lifts ∷ rest) = AreWritesDrawn p g n rest
AreWritesDrawn p g n (Ends writes drawn ∷ rest) = AreDrawn p (λ w. 0) g n writes drawn × AreWritesDrawn p g drawn rest

-- words moved along with their ids, and slots with their indexes
abbrev pub words_moved : (WordId → WordId) → (WordId → ℕ) → WordId → ℕ
words_moved from word_of w = word_of (from w)

abbrev pub slots_moved : ((version bucket index : ℕ) → ℕ) → VersionSlots → VersionSlots
slots_moved from slots v u j = slots v u (from v u j)

-- the label holes of a work, and whether one shows a word: of ids alone, whatever the words and the slots are
abbrev pub labels_in : Params → List LifeWork → List LabelFill
labels_in p work = life_labels p (λ w. 0) (formatted_life (own_slots 0)) (acts_of 0 own_slots work)

abbrev pub IsShown : Params → List LifeWork → WordId → Type 0
IsShown p work w = (l : LabelFill) × Has (labels_in p work) l × (l.word ≡ w)

-- The exchange of tapes that makes a life of one work a life of the other, of which the same is seen.
pub record Exchange (p : Params) (one other : List LifeWork) : Type 0 where
  pub ids : WordId → WordId
  pub ids_back : WordId → WordId
  pub ids_undo : Undo ids ids_back
  -- an id that neither shows stays: no word moves to or from one that wasn't drawn
  pub ids_stay : (w : WordId) → (IsShown p one w → ⊥) → (IsShown p other w → ⊥) → ids w ≡ w
  -- of each version of a bucket, for all words
  pub indexes : (WordId → ℕ) → (version bucket index : ℕ) → ℕ
  pub indexes_back : (WordId → ℕ) → (version bucket index : ℕ) → ℕ
  pub indexes_undo : (word_of : WordId → ℕ) (v u : ℕ) → Undo (indexes word_of v u) (indexes_back word_of v u)
  -- those of a version among themselves
  pub indexes_within : (word_of : WordId → ℕ) (v u : ℕ) → PermutesBelow (p.real + p.dummies) (indexes word_of v u) (indexes_back word_of v u)
  -- so rankings become rankings, a life of the one a life of the other, and the same is seen of both
  pub rankings : (word_of : WordId → ℕ) (slots : VersionSlots) (v u : ℕ) → IsRanking (p.real + p.dummies) (slots v u) → IsRanking (p.real + p.dummies) (slots_moved (indexes_back word_of) slots v u)
  pub lives : (word_of : WordId → ℕ) (slots : VersionSlots) → IsLifeOf p word_of slots one → IsLifeOf p (words_moved ids_back word_of) (slots_moved (indexes_back word_of) slots) other
  pub same : (word_of : WordId → ℕ) (slots : VersionSlots) → IsLifeOf p word_of slots one → seen_of_work p word_of slots one ≡ seen_of_work p (words_moved ids_back word_of) (slots_moved (indexes_back word_of) slots) other

-- moved by the one and then by the other, each tape is itself again
pub record Inverts {p : Params} {one other : List LifeWork} (there : Exchange p one other) (back : Exchange p other one) : Type 0 where
  pub words : (word_of : WordId → ℕ) → words_moved back.ids_back (words_moved there.ids_back word_of) ≡ word_of
  pub slots : (word_of : WordId → ℕ) (slots : VersionSlots) → slots_moved (back.indexes_back (words_moved there.ids_back word_of)) (slots_moved (there.indexes_back word_of) slots) ≡ slots

-- Any two works of one shape, whose puts are of words drawn, are exchanged, one for one.
abbrev pub LivesExchange : Type 0
LivesExchange = (p : Params) (one other : List LifeWork) → 0 < p.dummies → SameShape one other → AreWritesDrawn p 1 0 one → AreWritesDrawn p 1 0 other →
    (there : Exchange p one other) × (back : Exchange p other one) × Inverts there back × Inverts back there
