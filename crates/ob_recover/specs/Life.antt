-- Lives of a ring store: what every attempt of every epoch shows.
use Rattle.std.specs.Prelude.{◌≡◌, ℕ, ◌+◌, ◌-◌, ◌^◌, ◌%◌, ◌<◌, ◌≤◌, ◌==◌, Bool, true, false, cond, List, [], ◌∷◌, ◌++◌, map, length, Option, ⊤}
use Rattle.std.specs.declared.option.Option.TheVariants.{None, Some}
use Rattle.std.proofs.Common.{zero, suc}
use Rattle.ob_tables.specs.Rank.{IsRanking}
use Rattle.ob_base.specs.declared.params.Params.{Params}
use Rattle.ob_schedule.specs.Paths.{eviction_path}
use Rattle.ob_ring.specs.FlatTable.{FlatTable, Shown, FinalLifts, Writes, Refill, after, after_batch, batch_shown, final_shown, shown_label, after_label}
use Rattle.ob_base.specs.Repeats.{Has}

-- a word, by its generation and its place in that generation's tape
pub record WordId : Type 0 where
  pub generation : ℕ
  pub place : ℕ

-- a batch's record: what each place asks for, and the word of the first place
pub record LifeBatch : Type 0 where
  pub asks : List (Option ℕ)
  pub first : WordId

abbrev pub next_word : WordId → WordId
next_word w = record w { place = w.place + 1 }

-- each place with its own word
abbrev pub with_words : WordId → List (Option ℕ) → List (Option ℕ × WordId)
with_words w [] = []
with_words w (a ∷ rest) = (a, w) ∷ with_words (next_word w) rest

abbrev pub batch_places : LifeBatch → List (Option ℕ × WordId)
batch_places r = with_words r.first r.asks

-- what an epoch starts from: the checkpoint's content
pub record LifeContent : Type 0 where
  pub table : FlatTable
  pub book : ℕ → Option WordId
  pub version : ℕ → ℕ  -- of a bucket's slots: the epoch that filled it, 0 for the format
  pub slot : ℕ → ℕ → ℕ  -- the physical slot of a bucket's index
  pub home : ℕ → ℕ  -- in which of its two places a bucket lies: 0 behind the format, and the other one whenever it is filled anew

-- a label hole and the word that it shows
pub record LabelFill : Type 0 where
  pub epoch : ℕ
  pub batch : ℕ
  pub place : ℕ
  pub word : WordId

-- a slot hole, the bucket's version and the slot that it shows
pub record SlotFill : Type 0 where
  pub epoch : ℕ
  pub bucket : ℕ
  pub number : ℕ
  pub version : ℕ
  pub slot : ℕ

-- no two holes show one word, nor one slot of a bucket's version; a hole shows the same each time
pub record HolesAreFresh (labels : List LabelFill) (slots : List SlotFill) : Type 0 where
  pub labels_apart : (l m : LabelFill) → Has labels l → Has labels m → l.word ≡ m.word → l ≡ m
  pub labels_again : (l m : LabelFill) → Has labels l → Has labels m → l.epoch ≡ m.epoch → l.batch ≡ m.batch → l.place ≡ m.place → l ≡ m
  pub slots_apart : (f g : SlotFill) → Has slots f → Has slots g → f.bucket ≡ g.bucket → f.version ≡ g.version → f.slot ≡ g.slot → f ≡ g
  pub slots_again : (f g : SlotFill) → Has slots f → Has slots g → f.epoch ≡ g.epoch → f.bucket ≡ g.bucket → f.number ≡ g.number → f ≡ g

abbrev pub labels_of : ℕ → ℕ → ℕ → (ℕ → Option WordId) → List (Option ℕ × WordId) → List LabelFill
labels_of e b i book [] = []
labels_of e b i book (a ∷ rest) = record { epoch = e; batch = b; place = i; word = shown_label book a.0 a.1 } ∷ labels_of e b (i + 1) (after_label book a.0 a.1) rest

abbrev pub book_after : (ℕ → Option WordId) → List (Option ℕ × WordId) → ℕ → Option WordId
book_after book [] = book
book_after book (a ∷ rest) = book_after (after_label book a.0 a.1) rest

abbrev pub slot_fill : ℕ → LifeContent → Shown → SlotFill
slot_fill e c s = record { epoch = e; bucket = s.bucket; number = s.number; version = c.version s.bucket; slot = c.slot s.bucket s.index }

abbrev pub slots_of : ℕ → LifeContent → List Shown → List SlotFill
slots_of e c ss = map (slot_fill e c) ss

-- the state that a life has reached: what every image stands for, and what the present run has done
pub record LifeState : Type 0 where
  pub epoch : ℕ  -- the durable one
  pub content : LifeContent
  pub log : List LifeBatch  -- the open records of the epoch after it
  pub lifting : Bool  -- its final lifts were begun in some attempt
  pub generation : ℕ
  pub drawn : ℕ  -- words of this generation
  pub begun : ℕ  -- phases of this attempt
  pub past_labels : List LabelFill
  pub past_slots : List SlotFill

pub data LifeAct : Type 0 where
  Open : (generation : ℕ) → LifeAct  -- a run sets its generation
  Append : (r : LifeBatch) → LifeAct  -- a record becomes durable
  ShowBatch : LifeAct  -- the next phase of the attempt
  ShowLifts : LifeAct
  End : (writes : List (ℕ × Option WordId)) (drawn : ℕ) (slot : ℕ → ℕ → ℕ) → LifeAct  -- the epoch becomes durable

-- a put keeps its place's word, a del keeps none
abbrev pub IsPutOf : Option WordId → WordId → Type 0
IsPutOf None word = ⊤
IsPutOf (Some w) word = w ≡ word

-- for the parameters and the words of a tape
module _ (p : Params) (word_of : WordId → ℕ) where
  abbrev pub leaf_of_word : WordId → ℕ
  leaf_of_word w = word_of w % 2 ^ p.levels

  abbrev pub leaves : List (Option ℕ × WordId) → List (Option ℕ × ℕ)
  leaves places = map (λ a. (a.0, leaf_of_word a.1)) places

  -- the table and the book after the batches of a log
  abbrev pub table_after : FlatTable → List LifeBatch → FlatTable
  table_after t [] = t
  table_after t (r ∷ rs) = table_after (after_batch p t (leaves (batch_places r))) rs

  abbrev pub book_after_log : (ℕ → Option WordId) → List LifeBatch → ℕ → Option WordId
  book_after_log book [] = book
  book_after_log book (r ∷ rs) = book_after_log (book_after book (batch_places r)) rs

  -- what the phases of a log show, and what its n-th phase shows
  abbrev pub log_labels : ℕ → ℕ → (ℕ → Option WordId) → List LifeBatch → List LabelFill
  log_labels e b book [] = []
  log_labels e b book (r ∷ rs) = labels_of e b 0 book (batch_places r) ++ log_labels e (b + 1) (book_after book (batch_places r)) rs

  abbrev pub log_slots : ℕ → LifeContent → FlatTable → List LifeBatch → List SlotFill
  log_slots e c t [] = []
  log_slots e c t (r ∷ rs) = slots_of e c (batch_shown p t (leaves (batch_places r))) ++ log_slots e c (after_batch p t (leaves (batch_places r))) rs

  abbrev pub phase_labels : ℕ → ℕ → (ℕ → Option WordId) → List LifeBatch → ℕ → List LabelFill
  phase_labels e b book [] n = []
  phase_labels e b book (r ∷ rs) zero = labels_of e b 0 book (batch_places r)
  phase_labels e b book (r ∷ rs) (suc n) = phase_labels e (b + 1) (book_after book (batch_places r)) rs n

  abbrev pub phase_slots : ℕ → LifeContent → FlatTable → List LifeBatch → ℕ → List SlotFill
  phase_slots e c t [] n = []
  phase_slots e c t (r ∷ rs) zero = slots_of e c (batch_shown p t (leaves (batch_places r)))
  phase_slots e c t (r ∷ rs) (suc n) = phase_slots e c (after_batch p t (leaves (batch_places r))) rs n

  abbrev pub lift_slots : ℕ → LifeContent → FlatTable → List SlotFill
  lift_slots e c t = slots_of e c (final_shown p t (eviction_path p t.counter))

  abbrev pub table_now : LifeState → FlatTable
  table_now s = table_after s.content.table s.log

  abbrev pub book_now : LifeState → ℕ → Option WordId
  book_now s = book_after_log s.content.book s.log

  -- the writes of an end: each key with Some word for a put, None for a del
  abbrev pub book_written : (ℕ → Option WordId) → List (ℕ × Option WordId) → ℕ → Option WordId
  book_written book [] = book
  book_written book (w ∷ ws) = book_written (λ k. cond (k == w.0) w.1 (book k)) ws

  abbrev pub leaf_of_put : Option WordId → Option ℕ
  leaf_of_put None = None
  leaf_of_put (Some w) = Some (leaf_of_word w)

  abbrev pub leaf_write : ℕ × Option WordId → ℕ × Option ℕ
  leaf_write w = (w.0, leaf_of_put w.1)

  abbrev pub is_table_lifted : LifeState → ℕ → Bool
  is_table_lifted s u = (after p (table_now s) FinalLifts).lifted u

  -- the content that an end makes durable
  abbrev pub ended_content : LifeState → List (ℕ × Option WordId) → (ℕ → ℕ → ℕ) → LifeContent
  ended_content s ws slot = record {
    table = after p (after p (after p (table_now s) FinalLifts) (Writes (map leaf_write ws))) Refill;
    book = book_written (book_now s) ws;
    version = λ u. cond (is_table_lifted s u) (s.epoch + 1) (s.content.version u);
    slot = λ u. cond (is_table_lifted s u) (slot u) (s.content.slot u);
    home = λ u. cond (is_table_lifted s u) (1 - s.content.home u) (s.content.home u);
  }

  -- all that the attempts of the epoch may show
  abbrev pub planned_labels : LifeState → List LabelFill
  planned_labels s = s.past_labels ++ log_labels (s.epoch + 1) 0 s.content.book s.log

  abbrev pub planned_slots : LifeState → List SlotFill
  planned_slots s = s.past_slots ++ (log_slots (s.epoch + 1) s.content s.content.table s.log ++ cond s.lifting (lift_slots (s.epoch + 1) s.content (table_now s)) [])

  abbrev pub life_step : LifeState → LifeAct → LifeState
  life_step s (Open g) = record s { generation = g; drawn = 0; begun = 0 }
  life_step s (Append r) = record s { log = s.log ++ r ∷ []; drawn = r.first.place + length r.asks }
  life_step s ShowBatch = record s { begun = s.begun + 1 }
  life_step s ShowLifts = record s { lifting = true; begun = s.begun + 1 }
  life_step s (End ws drawn slot) = record {
    epoch = s.epoch + 1;
    content = ended_content s ws slot;
    log = [];
    lifting = false;
    generation = s.generation;
    drawn = drawn;
    begun = 0;
    past_labels = planned_labels s;
    past_slots = planned_slots s;
  }

  abbrev pub labels_shown : LifeState → LifeAct → List LabelFill
  labels_shown s (Open g) = []
  labels_shown s (Append r) = []
  labels_shown s ShowBatch = phase_labels (s.epoch + 1) 0 s.content.book s.log s.begun
  labels_shown s ShowLifts = []
  labels_shown s (End ws drawn slot) = []

  abbrev pub slots_shown : LifeState → LifeAct → List SlotFill
  slots_shown s (Open g) = []
  slots_shown s (Append r) = []
  slots_shown s ShowBatch = phase_slots (s.epoch + 1) s.content s.content.table s.log s.begun
  slots_shown s ShowLifts = lift_slots (s.epoch + 1) s.content (table_now s)
  slots_shown s (End ws drawn slot) = []

  -- the words of puts are new ones of the present generation, all different
  abbrev pub AreDrawn : ℕ → ℕ → List (ℕ × Option WordId) → ℕ → Type 0
  AreDrawn g n [] drawn = n ≤ drawn
  AreDrawn g n (w ∷ ws) drawn = (word : WordId) × (IsPutOf w.1 word) × (word.generation ≡ g) × (n ≤ word.place) × AreDrawn g (word.place + 1) ws drawn

  -- what the five clauses of the calls say of an act
  abbrev pub IsActAllowed : LifeState → LifeAct → Type 0
  IsActAllowed s (Open g) = s.generation < g
  IsActAllowed s (Append r) = (length s.log < p.batches) × (r.first.generation ≡ s.generation) × (s.drawn ≤ r.first.place)
  IsActAllowed s ShowBatch = s.begun < length s.log
  IsActAllowed s ShowLifts = (length s.log ≡ p.batches) × (s.begun ≡ p.batches)
  IsActAllowed s (End ws drawn slot) = (s.lifting ≡ true) × (length s.log ≡ p.batches) × AreDrawn s.generation s.drawn ws drawn × ((u : ℕ) → is_table_lifted s u ≡ true → IsRanking (p.real + p.dummies) (slot u))

  abbrev pub IsLife : LifeState → List LifeAct → Type 0
  IsLife s [] = ⊤
  IsLife s (a ∷ rest) = IsActAllowed s a × IsLife (life_step s a) rest

  abbrev pub life_labels : LifeState → List LifeAct → List LabelFill
  life_labels s [] = []
  life_labels s (a ∷ rest) = labels_shown s a ++ life_labels (life_step s a) rest

  abbrev pub life_slots : LifeState → List LifeAct → List SlotFill
  life_slots s [] = []
  life_slots s (a ∷ rest) = slots_shown s a ++ life_slots (life_step s a) rest

  abbrev pub reached : LifeState → List LifeAct → LifeState
  reached s [] = s
  reached s (a ∷ rest) = reached (life_step s a) rest

-- what a format leaves, with its slots' order
abbrev pub formatted_life : (ℕ → ℕ → ℕ) → LifeState
formatted_life slot = record {
  epoch = 0;
  content = record { table = record { rows = λ k. None; used = λ u j. false; lifted = λ u. false; counter = 0 }; book = λ k. None; version = λ u. 0; slot = slot; home = λ u. 0 };
  log = [];
  lifting = false;
  generation = 1;
  drawn = 0;
  begun = 0;
  past_labels = [];
  past_slots = [];
}
