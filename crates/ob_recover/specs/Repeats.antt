-- What is shown again of the read batches that were begun before a crash, and what the planner then keeps.
use Rattle.std.specs.Prelude.{◌≡◌, ◌≢◌, ◌⊎◌, ◌<◌, ◌≤◌, ℕ, ◌+◌, List, [], ◌∷◌, ◌++◌, length, map, take, Option, Some, None, Result, Ok, Err}
use Rattle.ob_base.specs.declared.params.Params.{Params}
use Rattle.ob_base.specs.declared.job.Job.{Job}
use Rattle.ob_base.specs.Planned.{job_at}
use Rattle.ob_base.specs.declared.fault.Damaged.{Damaged}
use Rattle.ob_base.specs.declared.fault.Fault.{Fault}
use Rattle.ob_base.specs.declared.fault.Fault.TheVariants as fault
use Rattle.ob_store.specs.Disk.{Image}
use Rattle.ob_store.specs.Calls.{Notes}
use Rattle.ob_store.specs.Lines.{Trace, Shows}
use Rattle.ob_store.specs.declared.event.Event.{Event}
use Rattle.ob_store.specs.declared.watch.Note.{Note}
use Rattle.ob_store.specs.declared.watch.Note.TheVariants as note
use Rattle.ob_seal.specs.declared.keys.Keys.{Keys}
use Rattle.ob_tables.specs.Version.{Version}
use Rattle.ob_tables.specs.declared.entry.Entry.{Entry}
use Rattle.ob_tables.specs.Kept.{entry_at}
use Rattle.ob_tables.specs.Content.{Content, Rows, content_of}
use Rattle.ob_ring.specs.Fetching.{places_of, leaf_places, after_labels}
use Rattle.ob_ring.specs.FlatTable.{FlatTable, Batch, after, leaf_shown, after_place}
use Rattle.ob_ring.specs.Picked.{Picked, SameSeals, job_of, place_picked, batch_picked}
use Rattle.ob_ring.specs.Ring.{Kept, StandsFor}
use Rattle.ob_ring.specs.Settling.{first_fault, rows_after}
use Rattle.ob_log.specs.Logs.{BatchRecord}
use Rattle.ob_cells.specs.Jobs.{IsFirstFailing, AreJobsRead}
use Rattle.ob_cells.specs.Lanes.{ReadByLanes}
use Rattle.ob_stand.specs.Carries.{Slots, AreRead, Carries}
use Rattle.ob_stand.specs.Epochs.{Read, AreAllRead, AreFaultless, rows_of_batches}
use Rattle.ob_stand.specs.Runs.{slots_of}
use Rattle.ob_stand.specs.Table.{buckets_of, flat_of, ring_of}
use Rattle.ob_stand.specs.Reads.{plains_in, slots_in}
use Rattle.ob_stand.specs.Stands.{RingStanding}
use Rattle.ob_recover.specs.declared.found.Found.{Found}

-- ---- what the records ask for

-- the record of a batch with these words, the first of which has this place in that generation's tape
abbrev pub record_of : (batch number generation first : ℕ) → List (Option ℕ) → List ℕ → BatchRecord
record_of batch number generation first asks words = record { batch = batch; generation = generation; number = number; first = first; asks = asks; words = words }

-- the places of a record's batch: what each asks for, and the entry that it gives, by the record's words and their ids
abbrev pub record_places : Params → BatchRecord → List (Option ℕ × Entry)
record_places p r = places_of p r.asks r.words (r.generation, r.first) (length r.asks)

abbrev pub asked_of_record : Params → BatchRecord → List (Option ℕ × ℕ)
asked_of_record p r = leaf_places (record_places p r)

-- the table and the entries after the batches of these records
abbrev pub table_after_records : Params → FlatTable → List BatchRecord → FlatTable
table_after_records p t [] = t
table_after_records p t (r ∷ rs) = table_after_records p (after p t (Batch (asked_of_record p r))) rs

abbrev pub entries_after_records : Params → (ℕ → Option Entry) → List BatchRecord → ℕ → Option Entry
entries_after_records p entries [] = entries
entries_after_records p entries (r ∷ rs) = entries_after_records p (after_labels entries (record_places p r)) rs

-- ---- what a batch shows

-- a place shows its label, and then the read of each slot that it picks
abbrev pub place_notes : Params → List Version → FlatTable → Option ℕ × ℕ → List Note
place_notes p versions t a = note.Label (leaf_shown t a.0 a.1) ∷ map (λ q. note.Read (job_of p versions q).cell) (place_picked p t a.0 a.1)

abbrev pub repeated_notes : Params → List Version → FlatTable → List (Option ℕ × ℕ) → List Note
repeated_notes p versions t [] = []
repeated_notes p versions t (a ∷ rest) = place_notes p versions t a ++ repeated_notes p versions (after_place p t a.0 a.1) rest

-- the jobs of a batch, before they are read
abbrev pub batch_jobs : Params → List Version → FlatTable → List (Option ℕ × ℕ) → List Job
batch_jobs p versions t asked = map (job_of p versions) (batch_picked p t asked)

abbrev pub batch_cells : Params → List Version → FlatTable → List (Option ℕ × ℕ) → List ℕ
batch_cells p versions t asked = map (λ j. j.cell) (batch_jobs p versions t asked)

-- the batches of these records, one behind the other
abbrev pub repeat_notes : Params → List Version → FlatTable → List BatchRecord → List Note
repeat_notes p versions t [] = []
repeat_notes p versions t (r ∷ rs) = repeated_notes p versions t (asked_of_record p r) ++ repeat_notes p versions (after p t (Batch (asked_of_record p r))) rs

abbrev pub repeat_cells : Params → List Version → FlatTable → List BatchRecord → List (List ℕ)
repeat_cells p versions t [] = []
repeat_cells p versions t (r ∷ rs) = batch_cells p versions t (asked_of_record p r) ∷ repeat_cells p versions (after p t (Batch (asked_of_record p r))) rs

-- each of these batches of cells was read by lanes, one batch behind the other
abbrev pub ReadInTurn : ℕ → List (List ℕ) → Option (List Event) → Option (List Event) → Type 0
ReadInTurn most [] old new = Notes [] old new
ReadInTurn most (cells ∷ rest) old new = (mid : Option (List Event)) × ReadByLanes most cells old mid × ReadInTurn most rest mid new

-- ---- what was read

-- the jobs of a record's batch were read: each has the slot of its index, none breaks a rule, and their rows joined the stash
pub record BatchIsRead (p : Params) (slots : Slots) (t : FlatTable) (r : BatchRecord) (rows rows' : Rows) : Type 0 where
  pub jobs : List Job
  pub read : AreRead slots (batch_picked p t (asked_of_record p r)) jobs
  pub faultless : first_fault jobs ≡ None
  pub rows_are : rows' ≡ rows_after rows jobs

-- they were read, and this is the first row that breaks its form
pub record IsRepeatRowDamage (p : Params) (slots : Slots) (t : FlatTable) (r : BatchRecord) (damaged : Damaged) : Type 0 where
  pub jobs : List Job
  pub read : AreRead slots (batch_picked p t (asked_of_record p r)) jobs
  pub first : first_fault jobs ≡ Some damaged

-- Whatever the store tells of its cells, jobs of these picks were read: each has the key of its pick and some plain bytes, none breaks a
-- rule, and their rows joined the stash.
pub record RowsJoin (picked : List Picked) (rows rows' : Rows) : Type 0 where
  pub jobs : List Job
  pub keys : map (λ j. j.key) jobs ≡ map (λ q. q.key) picked
  pub read : (i : ℕ) → i < length jobs → (job_at jobs i).result ≢ None
  pub faultless : first_fault jobs ≡ None
  pub rows_are : rows' ≡ rows_after rows jobs

-- the batches of these records did, one behind the other
abbrev pub AllRowsJoin : Params → FlatTable → List BatchRecord → Rows → Rows → Type 0
AllRowsJoin p t [] rows rows' = rows' ≡ rows
AllRowsJoin p t (r ∷ rs) rows rows' = (mid : Rows) × RowsJoin (batch_picked p t (asked_of_record p r)) rows mid × AllRowsJoin p (after p t (Batch (asked_of_record p r))) rs mid rows'

-- what is damaged of a batch: the first job that fails, by its cell's tag or seal, or else the first row
abbrev pub IsBatchDamage : Keys → Params → List Version → Image → FlatTable → BatchRecord → Damaged → Type 0
IsBatchDamage keys p versions image t r damaged =
    IsFirstFailing keys image (batch_jobs p versions t (asked_of_record p r)) (fault.Damaged damaged.cell damaged.check damaged.kept damaged.computed)
    ⊎ IsRepeatRowDamage p (slots_of p versions (plains_in keys image)) t r damaged

-- what a batch answers, where the store tells its cells
abbrev pub BatchAnswers : Keys → Params → List Version → Image → FlatTable → BatchRecord → Rows → Rows → Result (Unit {0}) Fault → Type 0
BatchAnswers keys p versions image t r rows rows' (Ok done) = BatchIsRead p (slots_of p versions (plains_in keys image)) t r rows rows'
BatchAnswers keys p versions image t r rows rows' (Err (fault.Damaged cell check kept computed)) =
    IsBatchDamage keys p versions image t r (record { cell = cell; check = check; kept = kept; computed = computed })
BatchAnswers keys p versions image t r rows rows' (Err (fault.StoreFault unsure)) = Unit {0}
BatchAnswers keys p versions image t r rows rows' (Err _) = ⊥

-- what a batch of planned jobs answers: they were read, or the first one that fails is told
abbrev pub JobsAnswer : Keys → Image → List Job → List Job → Result (Unit {0}) Fault → Type 0
JobsAnswer keys image old new (Ok done) = AreJobsRead keys image old new
JobsAnswer keys image old new (Err (fault.Damaged cell check kept computed)) = IsFirstFailing keys image old (fault.Damaged cell check kept computed)
JobsAnswer keys image old new (Err (fault.StoreFault unsure)) = Unit {0}
JobsAnswer keys image old new (Err _) = ⊥

-- each has the key that it had
abbrev pub HaveKeysOf : List Job → List Job → Type 0
HaveKeysOf old new = (i : ℕ) → (job_at new i).key ≡ (job_at old i).key

-- the batches of these records were read, one behind the other
pub record AreRepeated (p : Params) (slots : Slots) (t : FlatTable) (rows rows' : Rows) (rs : List BatchRecord) : Type 0 where
  pub batches : List Read
  pub asked : map (λ b. b.0) batches ≡ map (asked_of_record p) rs
  pub read : AreAllRead p slots t batches
  pub faultless : AreFaultless batches
  pub rows_are : rows' ≡ rows_of_batches rows batches

-- those before one were read, and this is what is damaged of that
pub record IsRepeatDamage (keys : Keys) (p : Params) (image : Image) (c : Content) (rs : List BatchRecord) (damaged : Damaged) : Type 0 where
  pub before : List BatchRecord
  pub broken : BatchRecord
  pub rest : List BatchRecord
  pub split : rs ≡ before ++ broken ∷ rest
  pub rows : Rows
  pub read : AreRepeated p (slots_in keys p c image) (flat_of p c) c.rows rows before
  pub damage : IsBatchDamage keys p c.versions image (table_after_records p (flat_of p c) before) broken damaged

-- the faults of reading batches
abbrev pub IsRepeatFault : Fault → Type 0
IsRepeatFault (fault.Damaged cell check kept computed) = Unit {0}
IsRepeatFault (fault.StoreFault unsure) = unsure ≡ None
IsRepeatFault _ = ⊥

-- ---- what a batch shows and reads

-- All its reads were made and shown, whatever they gave; or, of a store that failed, nothing was.
abbrev pub BatchIsShown : ℕ → List ℕ → List Note → Option (List Event) → Option (List Event) → Trace → Trace → Type 0
BatchIsShown most cells notes old new before after = ReadByLanes most cells old new × Shows notes before after

abbrev pub NoneIsShown : Option (List Event) → Option (List Event) → Trace → Trace → Type 0
NoneIsShown old new before after = Notes [] old new × Shows [] before after

abbrev pub BatchTells : ℕ → List ℕ → List Note → Option (List Event) → Option (List Event) → Trace → Trace → Result (Unit {0}) Fault → Type 0
BatchTells most cells notes old new before after (Err (fault.StoreFault unsure)) = BatchIsShown most cells notes old new before after ⊎ NoneIsShown old new before after
BatchTells most cells notes old new before after _ = BatchIsShown most cells notes old new before after

-- the batches of these records, all of each, and no more
pub record RepeatsTold (most : ℕ) (p : Params) (c : Content) (rs : List BatchRecord) (old new : Option (List Event)) (before after : Trace) : Type 0 where
  pub seen : ReadInTurn most (repeat_cells p c.versions (flat_of p c) rs) old new
  pub shows : Shows (repeat_notes p c.versions (flat_of p c) rs) before after

-- the batches of the first ones
pub record RepeatsFirst (most : ℕ) (p : Params) (c : Content) (rs : List BatchRecord) (old new : Option (List Event)) (before after : Trace) : Type 0 where
  pub count : ℕ
  pub few : count ≤ length rs
  pub told : RepeatsTold most p c (take count rs) old new before after

abbrev pub RepeatDoes : {T : Type 0} → ℕ → Params → Content → List BatchRecord → Option (List Event) → Option (List Event) → Trace → Trace → Result T Fault → Type 0
RepeatDoes most p c rs old new before after (Ok done) = RepeatsTold most p c rs old new before after
RepeatDoes most p c rs old new before after (Err _) = RepeatsFirst most p c rs old new before after

-- ---- the planner then

-- the content of a planner's tables
abbrev pub content_of_ring : Kept → Content
content_of_ring r = record { counter = r.counter; book = r.book; versions = (r.metas).versions; rows = (r.stash).rows }

-- After the batches of these records the planner stands for the table after them, its entries are those that they leave, its stash has
-- the rows that they read, and its buckets lie as they were sealed.
pub record HasRepeated (o : Kept) (rs : List BatchRecord) (ring : Kept) : Type 0 where
  pub params : ring.p ≡ o.p
  pub table : StandsFor ring (table_after_records o.p (flat_of o.p (content_of_ring o)) rs)
  pub entries : (k : ℕ) → entry_at ring.book k ≡ entries_after_records o.p (λ i. entry_at o.book i) rs k
  pub joins : AllRowsJoin o.p (flat_of o.p (content_of_ring o)) rs (o.stash).rows (ring.stash).rows
  pub seals : SameSeals o.metas ring.metas
  pub counter : ring.counter ≡ o.counter
  pub room : (ring.stash).room ≡ (o.stash).room

-- The planner behind the batches of these records, from a checkpoint's content on: its buckets lie as they were sealed, and none is
-- listed.
pub record IsPlannerOf (p : Params) (c : Content) (records : List BatchRecord) (ring : Kept) : Type 0 where
  pub params : ring.p ≡ p
  pub table : StandsFor ring (table_after_records p (flat_of p c) records)
  pub entries : (k : ℕ) → entry_at ring.book k ≡ entries_after_records p (λ i. entry_at c.book i) records k
  pub seals : SameSeals (buckets_of p c) ring.metas
  pub counter : ring.counter ≡ c.counter
  pub room : (ring.stash).room ≡ p.keys

-- what is answered of them where the store tells its cells
abbrev pub RepeatsAnswer : Keys → Kept → Image → List BatchRecord → Rows → Result (Unit {0}) Fault → Type 0
RepeatsAnswer keys o image rs rows (Ok done) = AreRepeated o.p (slots_in keys o.p (content_of_ring o) image) (flat_of o.p (content_of_ring o)) (content_of_ring o).rows rows rs
RepeatsAnswer keys o image rs rows (Err (fault.Damaged cell check kept computed)) =
    IsRepeatDamage keys o.p image (content_of_ring o) rs (record { cell = cell; check = check; kept = kept; computed = computed })
RepeatsAnswer keys o image rs rows (Err (fault.StoreFault unsure)) = Unit {0}
RepeatsAnswer keys o image rs rows (Err _) = ⊥

-- of what was found: so many of the epoch's batches are left
pub record IsReplayed (p : Params) (found : Found) (ring : Kept) (left : ℕ) : Type 0 where
  pub repeated : HasRepeated (ring_of p found.tables) found.records ring
  pub left_are : left + length found.records ≡ p.batches

-- what is answered where the store tells its cells
abbrev pub IsReplayOf : Keys → Params → Image → Found → Result (Kept × ℕ) Fault → Type 0
IsReplayOf keys p image found (Ok done) =
    AreRepeated p (slots_in keys p (content_of found.tables) image) (flat_of p (content_of found.tables)) (content_of found.tables).rows ((done.0).stash).rows found.records
IsReplayOf keys p image found (Err (fault.Damaged cell check kept computed)) =
    IsRepeatDamage keys p image (content_of found.tables) found.records (record { cell = cell; check = check; kept = kept; computed = computed })
IsReplayOf keys p image found (Err (fault.StoreFault unsure)) = Unit {0}
IsReplayOf keys p image found (Err _) = ⊥

-- where the store stands, the planner holds its map, and nothing is damaged
abbrev pub ReplaysStanding : Keys → Params → Image → RingStanding → Result (Kept × ℕ) Fault → Type 0
ReplaysStanding keys p image s (Ok done) = Carries p (table_after_records p (flat_of p s.content) s.records) ((done.0).stash).rows (slots_in keys p s.content image) s.map
ReplaysStanding keys p image s (Err (fault.StoreFault unsure)) = Unit {0}
ReplaysStanding keys p image s (Err _) = ⊥
