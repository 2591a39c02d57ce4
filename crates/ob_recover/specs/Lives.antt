-- What fills the holes is what a life of the store shows.
use Rattle.std.specs.Prelude.{◌≡◌, ℕ, ◌+◌, ◌<◌, List, map, length, slice_index, Option, Some, None}
use Rattle.ob_base.specs.Repeats.{Has}
use Rattle.ob_base.specs.declared.params.Params.{Params}
use Rattle.ob_base.specs.Tree.{buckets, width}
use Rattle.ob_tables.specs.Buckets.{version_at}
use Rattle.ob_tables.specs.Content.{Content, Obeys}
use Rattle.ob_stand.specs.Table.{flat_of}
use Rattle.ob_recover.specs.Life.{LifeBatch, LifeState, SlotFill, WordId, leaf_of_word, lift_slots, log_slots, phase_labels, table_now}
use Rattle.ob_log.specs.Logs.{BatchRecord, RecordsFit}
use Rattle.ob_recover.specs.Repeats.{table_after_records}
use Rattle.ob_schedule.specs.Schedule.{batch_leaves}
use Rattle.ob_tables.specs.Kept.{entry_at}
use Rattle.ob_tables.specs.declared.entry.Entry.{Entry}
use Rattle.ob_recover.specs.Known.{fills_of, fills_with_lifts, slot_kept}

-- ---- a life's names

-- a record, as a life has it: its places, and the id of its first word
abbrev pub life_batch : BatchRecord → LifeBatch
life_batch r = record { asks = r.asks; first = record { generation = r.generation; place = r.first } }

-- the id of the word that an entry keeps
abbrev pub word_kept : Option Entry → Option WordId
word_kept None = None
word_kept (Some e) = Some (record { generation = e.generation; place = e.index })

-- the tapes gave the record its words, one behind the other from its first place on
abbrev pub AreWordsOf : (WordId → ℕ) → BatchRecord → Type 0
AreWordsOf word_of r = (i : ℕ) → i < length r.asks → word_of (record { generation = r.generation; place = r.first + i }) ≡ slice_index r.words i

-- The life is in the epoch behind this content, and these are its records: the tapes gave their words, and those of the entries that the
-- content keeps; and each bucket lies where the life has it.
pub record IsLifeAt (p : Params) (word_of : WordId → ℕ) (c : Content) (rs : List BatchRecord) (s : LifeState) : Type 0 where
  pub table : (s.content).table ≡ flat_of p c
  pub slots : (u j : ℕ) → u < buckets p → j < width p → (s.content).slot u j ≡ slot_kept c u j
  pub homes : (u : ℕ) → (s.content).home u ≡ (version_at c.versions u).home
  pub book : (k : ℕ) → (s.content).book k ≡ word_kept (entry_at c.book k)
  pub kept : (k : ℕ) (e : Entry) → entry_at c.book k ≡ Some e → e.leaf ≡ leaf_of_word p word_of (record { generation = e.generation; place = e.index })
  pub log : s.log ≡ map life_batch rs
  pub words : (r : BatchRecord) → Has rs r → AreWordsOf word_of r

-- ---- the law

-- Its table is the planner's; each batch's labels are the low bits of the words that the life shows there; and each slot that the life
-- shows in the batches, or in the final lifts, is the one that fills the hole of its name.
pub record LifeShowsFills (p : Params) (word_of : WordId → ℕ) (c : Content) (rs : List BatchRecord) (s : LifeState) : Type 0 where
  pub table : table_now p word_of s ≡ table_after_records p (flat_of p c) rs
  pub labels : (b : ℕ) → b < length rs → map (λ l. leaf_of_word p word_of l.word) (phase_labels p word_of (s.epoch + 1) 0 (s.content).book s.log b) ≡ batch_leaves p (fills_of p c rs) b
  pub slots : (f : SlotFill) → Has (log_slots p word_of (s.epoch + 1) s.content (s.content).table s.log) f → f.slot ≡ (fills_of p c rs).slot (record { bucket = f.bucket; number = f.number })
  pub lifts : (f : SlotFill) → Has (lift_slots p word_of (s.epoch + 1) s.content (table_now p word_of s)) f → f.slot ≡ (fills_with_lifts p c rs).slot (record { bucket = f.bucket; number = f.number })

abbrev pub LivesShowFills : Type 0
LivesShowFills = (p : Params) (word_of : WordId → ℕ) (c : Content) (rs : List BatchRecord) (s : LifeState) → Obeys p c → RecordsFit p rs → IsLifeAt p word_of c rs s → LifeShowsFills p word_of c rs s
