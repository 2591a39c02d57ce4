-- What is public of a life is moved on by what anyone sees of its acts.
use Rattle.std.specs.Prelude.{◌≡◌, ℕ, ◌+◌, ◌<◌, ◌≤◌, ◌==◌, Bool, ◌||◌, List, [], ◌∷◌, ◌++◌, map, ⊤, Option}
use Rattle.ob_base.specs.Layout.{EpochTwin, GenerationTwin}
use Rattle.ob_base.specs.declared.params.Params.{Params}
use Rattle.ob_tables.specs.Rank.{IsRanking}
use Rattle.ob_base.specs.Tree.{width}
use Rattle.ob_recover.specs.Life.{WordId, LifeBatch, LifeState, LifeAct, Open, Append, ShowBatch, ShowLifts, End, IsActAllowed, IsLife, leaf_of_word, labels_shown, life_step, reached, formatted_life}
use Rattle.ob_recover.specs.LifePublic.{public_in}
use Rattle.ob_schedule.specs.Schedule.{Public, after_end, after_phase, begun_public, gate_cell, opens_gate, public_formatted}

module _ (p : Params) (word_of : WordId → ℕ) where
  -- the leaves of the batch that this attempt shows next
  abbrev pub leaves_next : LifeState → List ℕ
  leaves_next s = map (λ l. leaf_of_word p word_of l.word) (labels_shown p word_of s ShowBatch)

  -- An opening begins an attempt with the register gates that it finds; a batch that is shown adds its leaves; an end of which this attempt
  -- has shown all batches ends the epoch, its register's gate open; a record and the final lifts change nothing.
  pub record GoesOnPublic (s : LifeState) (gates : ℕ → Bool) : Type 0 where
    pub opens : (generation : ℕ) (found : ℕ → Bool) → public_in p word_of (life_step p word_of s (Open generation)) found ≡ begun_public found (public_in p word_of s gates)
    pub appends : (r : LifeBatch) → IsActAllowed p word_of s (Append r) → public_in p word_of (life_step p word_of s (Append r)) gates ≡ public_in p word_of s gates
    pub shows : IsActAllowed p word_of s ShowBatch → public_in p word_of (life_step p word_of s ShowBatch) gates ≡ after_phase p (public_in p word_of s gates) (leaves_next s)
    pub lifts : IsActAllowed p word_of s ShowLifts → public_in p word_of (life_step p word_of s ShowLifts) gates ≡ public_in p word_of s gates
    pub ends : (ws : List (ℕ × Option WordId)) (drawn : ℕ) (slot : ℕ → ℕ → ℕ) → IsActAllowed p word_of s (End ws drawn slot) → p.batches ≤ s.begun →
        public_in p word_of (life_step p word_of s (End ws drawn slot)) (λ cell. (cell == gate_cell p EpochTwin (s.epoch + 1)) || gates cell) ≡ after_end p (public_in p word_of s gates)

-- the gates that a format leaves open
abbrev pub formatted_gates : Params → ℕ → Bool
formatted_gates p cell = (cell == gate_cell p GenerationTwin 1) || (cell == gate_cell p EpochTwin 0)

-- ---- all that was seen

-- what anyone sees of an act: which gates an opening found, the leaves of a batch, that an epoch ended
pub data SeenAct : Type 0 where
  Opens : (generation : ℕ) (found : ℕ → Bool) → SeenAct
  Shows : (leaves : List ℕ) → SeenAct
  Ends : SeenAct

abbrev pub public_step : Params → Public → SeenAct → Public
public_step p q (Opens generation found) = opens_gate (begun_public found q) (gate_cell p GenerationTwin generation)
public_step p q (Shows leaves) = after_phase p q leaves
public_step p q Ends = after_end p q

abbrev pub public_after : Params → Public → List SeenAct → Public
public_after p q [] = q
public_after p q (a ∷ rest) = public_after p (public_step p q a) rest

module _ (p : Params) (word_of : WordId → ℕ) (found : ℕ → ℕ → Bool) where
  -- of each act, where the run of a generation found these gates
  abbrev pub seen_of : LifeState → LifeAct → List SeenAct
  seen_of s (Open generation) = Opens generation (found generation) ∷ []
  seen_of s (Append r) = []
  seen_of s ShowBatch = Shows (leaves_next p word_of s) ∷ []
  seen_of s ShowLifts = []
  seen_of s (End ws drawn slot) = Ends ∷ []

  abbrev pub all_seen : LifeState → List LifeAct → List SeenAct
  all_seen s [] = []
  all_seen s (a ∷ rest) = seen_of s a ++ all_seen (life_step p word_of s a) rest

-- each epoch is ended by an attempt that has shown all its batches
abbrev pub AreEndsShown : Params → (WordId → ℕ) → LifeState → List LifeAct → Type 0
AreEndsShown p word_of s [] = ⊤
AreEndsShown p word_of s (End ws drawn slot ∷ rest) = (p.batches ≤ s.begun) × AreEndsShown p word_of (life_step p word_of s (End ws drawn slot)) rest
AreEndsShown p word_of s (a ∷ rest) = AreEndsShown p word_of (life_step p word_of s a) rest

-- what anyone makes of all that was seen from a format on
abbrev pub public_seen : (p : Params) → (WordId → ℕ) → (found : ℕ → ℕ → Bool) → (ℕ → ℕ → ℕ) → List LifeAct → Public
public_seen p word_of found slot acts = public_after p (public_formatted p) (all_seen p word_of found (formatted_life slot) acts)

-- ---- the law

-- Of a life from a format on: what is public of it is a new store's, moved on by each act, and in all by what was seen.
pub record LivesArePublic : Type 0 where
  pub formatted : (p : Params) (word_of : WordId → ℕ) (slot : ℕ → ℕ → ℕ) → public_in p word_of (formatted_life slot) (formatted_gates p) ≡ public_formatted p
  pub goes_on : (p : Params) (word_of : WordId → ℕ) (slot : ℕ → ℕ → ℕ) (acts : List LifeAct) (gates : ℕ → Bool) → 0 < p.dummies → ((u : ℕ) → IsRanking (width p) (slot u)) →
      IsLife p word_of (formatted_life slot) acts → GoesOnPublic p word_of (reached p word_of (formatted_life slot) acts) gates
  pub seen : (p : Params) (word_of : WordId → ℕ) (found : ℕ → ℕ → Bool) (slot : ℕ → ℕ → ℕ) (acts : List LifeAct) → 0 < p.dummies → ((u : ℕ) → IsRanking (width p) (slot u)) →
      IsLife p word_of (formatted_life slot) acts → AreEndsShown p word_of (formatted_life slot) acts →
      public_in p word_of (reached p word_of (formatted_life slot) acts) (public_seen p word_of found slot acts).gates ≡ public_seen p word_of found slot acts
