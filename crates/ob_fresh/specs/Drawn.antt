-- The words that a life of a store draws, and which of them each hole shows.
use Rattle.std.specs.Prelude.{◌≡◌, ℕ, ◌+◌, ◌*◌, ◌<◌, ◌≤◌, ◌==◌, true, cond, List, [], ◌∷◌, ◌++◌, map, length, Option, Some, ⊤}
use Rattle.std.specs.List.{position_or_len}
use Rattle.ob_base.specs.declared.params.Params.{Params}
use Rattle.ob_base.specs.Tree.{below, buckets, width}
use Rattle.ob_tables.specs.Rank.{rank}
use Rattle.ob_ring.specs.FlatTable.{FinalLifts, after, refill_order}
use Rattle.ob_recover.specs.Life.{WordId, next_word, IsPutOf, LifeContent, LifeState, LifeAct, Open, Append, ShowBatch, ShowLifts, End, LabelFill, SlotFill, is_table_lifted, life_step, labels_shown, slots_shown, table_now, reached, formatted_life}

-- ---- what is kept beside a life

-- how many words its generation has drawn, and of each bucket's version the id of its first word: the word of index j stands j places on
pub record WordsKept : Type 0 where
  pub drawn : ℕ
  pub first : ℕ → WordId

abbrev pub words_on : WordId → ℕ → WordId
words_on w n = record w { place = w.place + n }

-- a format draws a word for each slot, buckets rising
abbrev pub formatted_words : Params → WordsKept
formatted_words p = record { drawn = buckets p * width p; first = λ u. record { generation = 1; place = u * width p } }

-- the i-th write's put keeps the i-th word, a del none
abbrev pub AreNextPuts : WordId → List (ℕ × Option WordId) → Type 0
AreNextPuts w [] = ⊤
AreNextPuts w (x ∷ ws) = IsPutOf x.1 w × AreNextPuts (next_word w) ws

module _ (p : Params) (word_of : WordId → ℕ) where
  -- the buckets that an end fills anew, in their order
  abbrev pub refilled : LifeState → List ℕ
  refilled s = refill_order p (after p (table_now p word_of s) FinalLifts)

  -- A run draws from its own tape; a record, a word for each place; an end, one for each write that an epoch may have, and then those of
  -- the buckets that it fills anew, one bucket behind the other.
  abbrev pub words_step : LifeState → WordsKept → LifeAct → WordsKept
  words_step s k (Open g) = record k { drawn = 0 }
  words_step s k (Append r) = record k { drawn = k.drawn + length r.asks }
  words_step s k ShowBatch = k
  words_step s k ShowLifts = k
  words_step s k (End ws drawn slot) = record {
    drawn = (k.drawn + p.writes) + length (refilled s) * width p;
    first = λ u. cond (is_table_lifted p word_of s u) (record { generation = s.generation; place = (k.drawn + p.writes) + position_or_len (λ v. v == u) (refilled s) * width p }) (k.first u);
  }

  -- ---- the words are the next ones

  -- the words of a bucket's version, and that its slots are their ranks
  abbrev pub version_words : WordId → List ℕ
  version_words first = map (λ j. word_of (words_on first j)) (below (width p))

  abbrev pub AreRanksFrom : (ℕ → ℕ) → WordId → Type 0
  AreRanksFrom slot first = (j : ℕ) → j < width p → slot j ≡ rank (version_words first) j

  -- what an end draws
  pub record EndDrawsNext (s : LifeState) (k : WordsKept) (ws : List (ℕ × Option WordId)) (drawn : ℕ) (slot : ℕ → ℕ → ℕ) : Type 0 where
    pub few : length ws ≤ p.writes
    pub puts : AreNextPuts (record { generation = s.generation; place = k.drawn }) ws
    pub many : drawn ≡ (words_step s k (End ws drawn slot)).drawn
    pub ranks : (u : ℕ) → is_table_lifted p word_of s u ≡ true → AreRanksFrom (slot u) ((words_step s k (End ws drawn slot)).first u)

  abbrev pub DrawsNext : LifeState → WordsKept → LifeAct → Type 0
  DrawsNext s k (Open g) = ⊤
  DrawsNext s k (Append r) = r.first ≡ record { generation = s.generation; place = k.drawn }
  DrawsNext s k ShowBatch = ⊤
  DrawsNext s k ShowLifts = ⊤
  DrawsNext s k (End ws drawn slot) = EndDrawsNext s k ws drawn slot

  abbrev pub AllDrawNext : LifeState → WordsKept → List LifeAct → Type 0
  AllDrawNext s k [] = ⊤
  AllDrawNext s k (a ∷ rest) = DrawsNext s k a × AllDrawNext (life_step p word_of s a) (words_step s k a) rest

  -- what is kept behind acts
  abbrev pub words_behind : LifeState → WordsKept → List LifeAct → WordsKept
  words_behind s k [] = k
  words_behind s k (a ∷ rest) = words_behind (life_step p word_of s a) (words_step s k a) rest

  -- these acts draw in turn, and so does one that is in flight behind them
  pub record DrawInTurn (s : LifeState) (k : WordsKept) (made : List LifeAct) (in_flight : Option LifeAct) : Type 0 where
    pub made_next : AllDrawNext s k made
    pub flying_next : (a : LifeAct) → in_flight ≡ Some a → DrawsNext (reached p word_of s made) (words_behind s k made) a

  -- of a format with these slots, and of what is done behind it
  pub record AreWordsInTurn (slot : ℕ → ℕ → ℕ) (acts : List LifeAct) : Type 0 where
    pub format : (u : ℕ) → u < buckets p → AreRanksFrom (slot u) ((formatted_words p).first u)
    pub behind : AllDrawNext (formatted_life slot) (formatted_words p) acts

-- ---- what is shown

-- a hole with what fills it, and the id of the word that it shows: a label's, or that of the index whose slot it shows
pub data WordFill : Type 0 where
  LabelWord : (l : LabelFill) → WordFill
  SlotWord : (f : SlotFill) (word : WordId) → WordFill

abbrev pub id_shown : WordFill → WordId
id_shown (LabelWord l) = l.word
id_shown (SlotWord f word) = word

-- the index of a bucket that lies in this slot
abbrev pub index_lying : Params → LifeContent → ℕ → ℕ → ℕ
index_lying p c u slot = position_or_len (λ j. c.slot u j == slot) (below (width p))

abbrev pub slot_word : Params → LifeContent → WordsKept → SlotFill → WordFill
slot_word p c k f = SlotWord f (words_on (k.first f.bucket) (index_lying p c f.bucket f.slot))

module _ (p : Params) (word_of : WordId → ℕ) where
  abbrev pub words_shown : LifeState → WordsKept → LifeAct → List WordFill
  words_shown s k a = map LabelWord (labels_shown p word_of s a) ++ map (slot_word p s.content k) (slots_shown p word_of s a)

  abbrev pub life_words : LifeState → WordsKept → List LifeAct → List WordFill
  life_words s k [] = []
  life_words s k (a ∷ rest) = words_shown s k a ++ life_words (life_step p word_of s a) (words_step p word_of s k a) rest
