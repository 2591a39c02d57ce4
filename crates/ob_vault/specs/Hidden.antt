-- What a ring store's vault keeps to itself, and what fills the holes of its calls.
use Rattle.std.specs.Prelude.{◌≡◌, ◌⊎◌, ℕ, suc, ◌+◌, ◌-◌, ◌%◌, ◌^◌, ◌<◌, ◌≤◌, true, false, cond, List, [], ◌∷◌, ◌++◌, length, map, drop, slice_index, Option, None, Some, Err}
use Rattle.ob_base.specs.declared.fault.Fault.{Fault}
use Rattle.ob_base.specs.declared.fault.Fault.TheVariants as fault
use Rattle.ob_base.specs.declared.params.Params.{Params}
use Rattle.ob_base.specs.declared.value.Write.{Write}
use Rattle.ob_base.specs.Layout.{record_cells}
use Rattle.ob_base.specs.Tree.{buckets}
use Rattle.ob_tables.specs.Buckets.{version_at}
use Rattle.ob_tables.specs.Rank.{ranks_of}
use Rattle.ob_tables.specs.Content.{Content, Obeys}
use Rattle.ob_end.specs.EndRuns.{EndAnswers, EndDraws, end_writes, rows_ended, seals_for_end, table_ended, words_for_end}
use Rattle.ob_end.specs.Shown.{before_gate, up_to_gate}
use Rattle.ob_fetch.specs.Fetches.{FetchDraws, words_since}
use Rattle.ob_stand.specs.Table.{flat_of}
use Rattle.ob_vault.specs.Shapes.{Ends, Fetches}
use Rattle.ob_log.specs.Logs.{BatchRecord, RecordsFit}
use Rattle.ob_recover.specs.Repeats.{entries_after_records, table_after_records}
use Rattle.ob_ring.specs.Filling.{words_of}
use Rattle.ob_ring.specs.FlatTable.{FinalLifts, FlatTable, after, refill_order}
use Rattle.ob_ring.specs.Writing.{entries_after}
use Rattle.ob_recover.specs.Known.{fills_of, fills_with_lifts}
use Rattle.ob_vault.specs.RingVaults.{write_from}
use Rattle.ob_schedule.specs.Paths.{is_one_of}
use Rattle.ob_recover.specs.Telling.{AreDealt}
use Rattle.ob_schedule.specs.Phases.{Phase, events_of_phases, phases_of, shared}
use Rattle.ob_schedule.specs.Schedule.{Fills, end_lifts, record_notes}
use Rattle.ob_serial.specs.Vaults.{End, Fetch, VaultCall}
use Rattle.ob_serial.specs.declared.vault.EndErr.{EndErr}
use Rattle.ob_serial.specs.declared.vault.EndErr.TheVariants.{Before, Unsure}
use Rattle.ob_store.specs.Told.{IsCut, events_of}
use Rattle.ob_store.specs.declared.event.Event.{Event}
use Rattle.ob_store.specs.declared.watch.Note.{Note}
use Rattle.ob_tables.specs.Kept.{entry_at}
use Rattle.ob_tables.specs.declared.entry.Entry.{Entry}
use Rattle.ob_vault.specs.Seen.{RingPublic, ring_notes, ring_phases}

-- The last epoch that ended, the content of its checkpoint, the records since, the generation, and of that the words which were drawn so
-- far, and how many seals were made.
pub record RingHidden : Type 0 where
  pub epoch : ℕ
  pub content : Content
  pub records : List BatchRecord
  pub generation : ℕ
  pub words : List ℕ
  pub seals : ℕ

-- the planner's table behind the records
abbrev pub table_hidden : Params → RingHidden → FlatTable
table_hidden p h = table_after_records p (flat_of p h.content) h.records

-- ---- a batch

-- The record of the next batch, which asks for these keys: its words stand behind those drawn before, and the first one's id is the
-- generation and how many those are.
pub record IsNextRecord (h : RingHidden) (asks : List (Option ℕ)) (r : BatchRecord) : Type 0 where
  pub batch : r.batch ≡ length h.records
  pub generation : r.generation ≡ h.generation
  pub first : r.first ≡ length h.words
  pub asked : r.asks ≡ asks

-- behind it a seal more is made for each cell of the record
abbrev pub with_next : Params → RingHidden → BatchRecord → RingHidden
with_next p h r = record h { records = h.records ++ r ∷ []; words = h.words ++ r.words; seals = h.seals + record_cells p }

-- It asks for a key, or for none, at each place, and draws a word for each, which there are, as there are the seals of its record; and its
-- holes are filled by the leaves and the slots that its record shows behind those before it.
pub record DrawsBatch (p : Params) (h : RingHidden) (asks : List (Option ℕ)) (f : Fills) (behind : RingHidden) : Type 0 where
  pub next : BatchRecord
  pub is_next : IsNextRecord h asks next
  pub whole : length asks ≡ p.places
  pub many : length next.words ≡ p.places
  pub few : length h.words + p.places ≤ 2 ^ 62
  pub few_seals : h.seals + record_cells p ≤ 2 ^ 62
  pub fills : f ≡ fills_of p h.content (h.records ++ next ∷ [])
  pub behind_is : behind ≡ with_next p h next

-- ---- an end

-- The content that an end leaves, of these writes and these words: the table is lifted, written and filled anew; the i-th write's key
-- keeps the i-th word, with its id, a del's none; the lifted buckets, in the order of the refill, take the words behind those of the
-- writes, so that their slots are the ranks of these, and lie in their other places; and the other buckets' slots and places stay.
pub record IsContentEnded (p : Params) (h : RingHidden) (writes : List Write) (words : List ℕ) (ended : Content) : Type 0 where
  pub obeys : Obeys p ended
  pub table : flat_of p ended ≡ table_ended p (table_hidden p h) (end_writes p writes words h.generation (length h.words))
  pub entries : (k : ℕ) → entry_at ended.book k
      ≡ entries_after (entries_after_records p (λ i. entry_at (h.content).book i) h.records) (end_writes p writes words h.generation (length h.words)) k
  pub within : (u : ℕ) → (after p (table_hidden p h) FinalLifts).lifted u ≡ true → u < buckets p
  pub ranks : (i : ℕ) → i < length (refill_order p (after p (table_hidden p h) FinalLifts))
      → (version_at ended.versions (slice_index (refill_order p (after p (table_hidden p h) FinalLifts)) i)).ranks ≡ ranks_of (words_of p (drop p.writes words) i)
  pub homes : (u : ℕ) → (version_at ended.versions u).home
      ≡ cond ((after p (table_hidden p h) FinalLifts).lifted u) (1 - (version_at (h.content).versions u).home) (version_at (h.content).versions u).home
  pub others : (u : ℕ) → is_one_of (refill_order p (after p (table_hidden p h) FinalLifts)) u ≡ false → (version_at ended.versions u).ranks ≡ (version_at (h.content).versions u).ranks

-- It comes behind all batches of its epoch, and there is such an epoch. Its lifts are filled by the slots of the content that the epoch began
-- with; the words that it draws, of which there are so many, make the content behind it, with no more rows in the stash than that may keep;
-- and the seals that it makes are left too.
pub record DrawsEnd (p : Params) (h : RingHidden) (writes : List Write) (f : Fills) (behind : RingHidden) : Type 0 where
  pub all : length h.records ≡ p.batches
  pub epochs : suc h.epoch < 2 ^ 62
  pub few_writes : length writes ≤ p.writes
  pub words : List ℕ
  pub many : length words ≡ words_for_end p (table_hidden p h)
  pub few : length h.words + words_for_end p (table_hidden p h) ≤ 2 ^ 62
  pub few_rows : rows_ended p (table_hidden p h) (end_writes p writes words h.generation (length h.words)) ≤ p.room
  pub few_seals : h.seals + seals_for_end p (table_hidden p h) ≤ 2 ^ 62
  pub fills : f ≡ fills_with_lifts p h.content h.records
  pub ended : IsContentEnded p h writes words behind.content
  pub epoch : behind.epoch ≡ suc h.epoch
  pub none : behind.records ≡ []
  pub generation : behind.generation ≡ h.generation
  pub grows : behind.words ≡ h.words ++ words
  pub sealed : behind.seals ≡ h.seals + seals_for_end p (table_hidden p h)

-- ---- calls

-- the records of an answered batch are those of an epoch: each asks for keys that are keys, for each once at most
abbrev pub RingDraws : Params → RingHidden → VaultCall → Fills → RingHidden → Type 0
RingDraws p h (Fetch asks) f behind = DrawsBatch p h asks f behind × RecordsFit p behind.records
RingDraws p h (End writes) f behind = DrawsEnd p h (map write_from writes) f behind

-- the writes of an end, with the entries that its words give, where a tape has then given these
abbrev pub writes_hidden : Params → RingHidden → List (ℕ × Option (List ℕ)) → (words : List ℕ) → List (Write × Entry)
writes_hidden p h writes words = end_writes p (map write_from writes) (words_since h.words words) h.generation (length h.words)

-- an end that was refused with this fault, or left in doubt where that tells of an epoch
abbrev pub refusal_of : Fault → EndErr
refusal_of (fault.StoreFault (Some epoch)) = Unsure (fault.StoreFault (Some epoch))
refusal_of refused = Before refused

-- The tape has given the words of the calls that were answered, and of the one that was refused behind them those that it drew. It has
-- given none behind those.
abbrev pub IsTapeBehind : Params → RingHidden → Option VaultCall → (words : List ℕ) → Option Fault → Type 0
IsTapeBehind p h None words refused = words ≡ h.words
IsTapeBehind p h (Some call) words None = words ≡ h.words
IsTapeBehind p h (Some (Fetch asks)) words (Some refused) = FetchDraws p.places h.words words (Err refused)
IsTapeBehind p h (Some (End writes)) words (Some refused) = EndDraws p (table_hidden p h) h.epoch (length h.words) h.words words (Err (refusal_of refused))

-- its words are the first of those that the tape has given in this generation
abbrev pub IsOfTape : RingHidden → List ℕ → Type 0
IsOfTape h words = (more : List ℕ) × (words ≡ h.words ++ more)

-- The fills of a call that was cut off are those of the call: a batch's are of words that the tape has given.
abbrev pub RingDrawsCut : Params → RingHidden → VaultCall → Fills → (words : List ℕ) → Type 0
RingDrawsCut p h (Fetch asks) f words = (behind : RingHidden) × DrawsBatch p h asks f behind × IsOfTape behind words
RingDrawsCut p h (End writes) f words = f ≡ fills_with_lifts p h.content h.records

-- ---- what is seen of a call that was cut off

-- the first ones of these phases, and no more, with reads dealt to at most so many lanes
abbrev pub AreFirst : ℕ → List Phase → List Event → Type 0
AreFirst most all more = (first : List Phase) × (rest : List Phase) × (all ≡ first ++ rest) × AreDealt most first more

-- Of a batch that its store refused, the first of its record's steps, or all of the batch's phases; where a slot is damaged, all of them.
abbrev pub BatchCut : ℕ → Params → RingPublic → Fills → Fault → List Event → Type 0
BatchCut most p q f (fault.StoreFault None) more = AreFirst most (phases_of (record_notes p (((q.known).epoch + 1) % 2) q.shown)) more ⊎ AreDealt most (ring_phases p q Fetches f) more
BatchCut most p q f (fault.Damaged cell check kept computed) more = AreDealt most (ring_phases p q Fetches f) more
BatchCut most p q f _ more = ⊥

-- the lifts' reads alone, all of them
abbrev pub AreLifts : ℕ → Params → RingPublic → Fills → List Event → Type 0
AreLifts most p q f more = AreDealt most (shared (end_lifts p q.known f) ∷ []) more

-- Of an end that its store refused, the first phases before the write that opens its register's gate; one that is left in doubt made that
-- write, with the sync behind it or without. A damaged slot, or a full stash, is told behind all reads of the lifts and before any write.
abbrev pub EndCut : ℕ → Params → RingPublic → Fills → Fault → List Event → Type 0
EndCut most p q f (fault.StoreFault None) more = AreFirst most (before_gate (ring_phases p q Ends f)) more
EndCut most p q f (fault.StoreFault (Some epoch)) more = AreDealt most (up_to_gate (ring_phases p q Ends f)) more ⊎ AreDealt most (ring_phases p q Ends f) more
EndCut most p q f (fault.Damaged cell check kept computed) more = AreLifts most p q f more
EndCut most p q f (fault.StashFull rows) more = AreLifts most p q f more
EndCut most p q f (fault.Worn number) more = (more ≡ []) ⊎ AreLifts most p q f more
EndCut most p q f _ more = ⊥

-- ---- and what a watch was shown of it, where this was seen

-- The row of these phases was cut short: the first ones were made, as planned, and shown, but for a sync that failed.
pub record IsFrontDealt (most : ℕ) (phases : List Phase) (row : List Note) (seen : List Event) (shown : List Note) : Type 0 where
  pub made : List Note
  pub cut : IsCut row made shown
  pub first : List Phase
  pub rest : List Phase
  pub split : phases ≡ first ++ rest
  pub same : events_of_phases first ≡ events_of made
  pub dealt : AreDealt most first seen

-- a batch's record alone, or all of its row
abbrev pub BatchCutShown : ℕ → Params → RingPublic → Fills → Fault → List Event → List Note → Type 0
BatchCutShown most p q f (fault.StoreFault None) seen shown =
    IsFrontDealt most (phases_of (record_notes p (((q.known).epoch + 1) % 2) q.shown)) (record_notes p (((q.known).epoch + 1) % 2) q.shown) seen shown
    ⊎ (AreDealt most (ring_phases p q Fetches f) seen × (shown ≡ ring_notes p q Fetches f))
BatchCutShown most p q f (fault.Damaged cell check kept computed) seen shown = shown ≡ ring_notes p q Fetches f
BatchCutShown most p q f _ seen shown = ⊥

-- an end's row before its gate, or up to the gate's write, or its lifts
abbrev pub EndCutShown : ℕ → Params → RingPublic → Fills → Fault → List Event → List Note → Type 0
EndCutShown most p q f (fault.StoreFault None) seen shown = IsFrontDealt most (before_gate (ring_phases p q Ends f)) (before_gate (ring_notes p q Ends f)) seen shown
EndCutShown most p q f (fault.StoreFault (Some epoch)) seen shown = shown ≡ up_to_gate (ring_notes p q Ends f)
EndCutShown most p q f (fault.Damaged cell check kept computed) seen shown = shown ≡ end_lifts p q.known f
EndCutShown most p q f (fault.StashFull rows) seen shown = shown ≡ end_lifts p q.known f
EndCutShown most p q f (fault.Worn number) seen shown = ((seen ≡ []) × (shown ≡ [])) ⊎ (AreLifts most p q f seen × (shown ≡ end_lifts p q.known f))
EndCutShown most p q f _ seen shown = ⊥

-- by the call and the fault; a batch for which numbers are worn shows nothing
abbrev pub RingCutShown : (most : ℕ) → Params → RingPublic → VaultCall → Fills → Fault → (seen : List Event) → (shown : List Note) → Type 0
RingCutShown most p q (Fetch asks) f (fault.Worn number) seen shown = shown ≡ []
RingCutShown most p q (Fetch asks) f refused seen shown = BatchCutShown most p q f refused seen shown
RingCutShown most p q (End writes) f refused seen shown = EndCutShown most p q f refused seen shown

-- An end is refused so, or left in doubt, where its numbers, its table and its writes let it be, in the order in which these are looked at.
abbrev pub IsEndAnswer : Params → RingHidden → List (ℕ × Option (List ℕ)) → (words : List ℕ) → Fault → Type 0
IsEndAnswer p h writes words refused = EndAnswers p (table_hidden p h) h.epoch (length h.words) h.seals (writes_hidden p h writes words) (Err (refusal_of refused))

-- What is seen goes by the fault, its holes filled as the call's; a batch for which numbers are worn draws no word, and shows nothing.
abbrev pub RingCut : (most : ℕ) → Params → RingPublic → RingHidden → VaultCall → Fills → (words : List ℕ) → Fault → List Event → Type 0
RingCut most p q h (Fetch asks) f words (fault.Worn number) more = more ≡ []
RingCut most p q h (Fetch asks) f words refused more = RingDrawsCut p h (Fetch asks) f words × BatchCut most p q f refused more
RingCut most p q h (End writes) f words refused more = RingDrawsCut p h (End writes) f words × EndCut most p q f refused more × IsEndAnswer p h writes words refused
