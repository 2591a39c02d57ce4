-- What a fetch of a ring store draws, keeps in the log, shows and answers.
use Rattle.std.specs.Prelude.{◌≡◌, ◌⊎◌, ◌↔◌, ℕ, suc, true, false, ◌+◌, ◌-◌, ◌<◌, ◌≤◌, ◌^◌, List, [], ◌∷◌, ◌++◌, map, drop, length, slice_get, Option, None, Some, Result, Ok, Err, OnOk, OnErr}
use Rattle.std.specs.FinMap as finite
use Rattle.ob_base.specs.declared.params.Params.{Params}
use Rattle.ob_base.specs.declared.fault.Fault.{Fault}
use Rattle.ob_base.specs.declared.fault.Fault.TheVariants as fault
use Rattle.ob_base.specs.Layout.{record_cells}
use Rattle.ob_base.specs.Planned.{most_jobs}
use Rattle.ob_cells.specs.Jobs.{Manned}
use Rattle.ob_tables.specs.Version.{Version}
use Rattle.ob_tables.specs.Content.{Rows}
use Rattle.ob_stand.specs.Table.{flat_of}
use Rattle.ob_log.specs.Appends.{IsWornOut, LeavesOf, append_notes, body_notes, gate_notes}
use Rattle.ob_log.specs.Logs.{BatchRecord, OpenRecords}
use Rattle.ob_recover.specs.Fits.{IsPlannerFit}
use Rattle.ob_recover.specs.Repeats.{AreRepeated, BatchIsRead, BatchTells, IsBatchDamage, IsPlannerOf, asked_of_record, record_of, record_places}
use Rattle.ob_ring.specs.Fetching.{after_labels}
use Rattle.ob_ring.specs.FlatTable.{Batch, FlatTable, after}
use Rattle.ob_ring.specs.Picked.{SameSeals}
use Rattle.ob_ring.specs.Ring.{Kept, StandsFor}
use Rattle.ob_recover.specs.Telling.{IsFrontShown, IsRowShown}
use Rattle.ob_schedule.specs.Phases.{Phase, phases_of}
use Rattle.ob_seal.specs.declared.keys.Keys.{Keys}
use Rattle.ob_stand.specs.Reads.{plains_in, slots_in}
use Rattle.ob_stand.specs.Stands.{OneOf, RingStanding, Stands, with_record}
use Rattle.ob_store.specs.Calls.{Notes}
use Rattle.ob_store.specs.Disk.{Disk, Image}
use Rattle.ob_store.specs.Images.{IsSynced, LeavesOnly, Passes, Same}
use Rattle.ob_store.specs.Lines.{Trace}
use Rattle.ob_store.specs.Told.{IsCut, Tells, TellsFirst, events_of}
use Rattle.ob_store.specs.declared.event.Event.{Event}
use Rattle.ob_store.specs.declared.watch.Note.{Note}
use Rattle.ob_tables.specs.Kept.{entry_at}
use Rattle.ob_stand.specs.Values.{Values}
use Rattle.ob_stand.specs.Runs.{slots_of}
use Rattle.ob_fetch.specs.Stages.{InTwoStages}
use Rattle.ob_fetch.specs.declared.run.Run.{Run}

-- ---- what is drawn

-- the words drawn since
abbrev pub words_since : List ℕ → List ℕ → List ℕ
words_since old new = drop (length old) new

-- so many words were drawn
pub record DrawsWords (many : ℕ) (old new : List ℕ) : Type 0 where
  pub words : new ≡ old ++ words_since old new
  pub many_are : length (words_since old new) ≡ many

-- no word for each place is left below the places of a generation, or not a seal for each cell of the record
abbrev pub IsWornForBatch : Run → Type 0
IsWornForBatch run = (2 ^ 62 < run.drawn + run.params.places) ⊎ (2 ^ 62 < run.sealer.next + record_cells run.params)

-- ---- the record

-- the number of the batch that comes next in the epoch
abbrev pub next_batch : Run → ℕ
next_batch run = run.params.batches - run.left

-- its record: its first word's id is the run's generation and how many words of that were drawn before
abbrev pub record_next : Run → List (Option ℕ) → List ℕ → BatchRecord
record_next run asks words = record_of (next_batch run) run.sealer.next run.sealer.generation run.drawn asks words

-- ---- what is answered

-- the row of an asked key; a pad has none
abbrev pub row_asked : Rows → Option ℕ → Option (List ℕ)
row_asked rows None = None
row_asked rows (Some key) = finite.get rows key

abbrev pub values_asked : Rows → List (Option ℕ) → List (Option (List ℕ))
values_asked rows asks = map (row_asked rows) asks

-- Each asked key has the map's value, and a pad has none.
pub record AreMapValues (m : Values) (asks : List (Option ℕ)) (out : List (Option (List ℕ))) : Type 0 where
  pub whole : length out ≡ length asks
  pub asked : (i key : ℕ) → slice_get asks i ≡ Some (Some key) → slice_get out i ≡ Some (m key)
  pub pads : (i : ℕ) → slice_get asks i ≡ Some None → slice_get out i ≡ Some None

-- ---- what a run keeps

-- It has room for what a batch needs, and its planner stands for a table.
pub record IsRunReady (run : Run) : Type 0 where
  pub params : (run.ring).p ≡ run.params
  pub rooms : ((run.jobs).room ≡ most_jobs run.params) × ((run.jobs).place_room ≡ (run.params).places)
  pub words : (run.params).places ≤ length (run.words).items
  pub few : run.left ≤ (run.params).batches
  pub small : run.epoch < 2 ^ 62
  pub generation : (run.sealer).generation < 2 ^ 62
  pub table : (t : FlatTable) × StandsFor run.ring t

-- A call may be made on the run, and another behind it: no lane of its store is out; it is ready and serves; its crew has room for the jobs
-- of a plan; its tape is in the generation that it seals with; and the words drawn of that are counted, and at most 2^62.
pub record MayGoOn (disk : Disk) (present : ℕ) (words : List ℕ) (manned : Manned) (run : Run) : Type 0 where
  pub none_out : disk.out ≡ 0
  pub ready : IsRunReady run
  pub serves : run.spent ≡ false
  pub crew : most_jobs run.params ≤ manned.jobs
  pub generation : present ≡ (run.sealer).generation
  pub drawn : run.drawn ≡ length words
  pub few : run.drawn ≤ 2 ^ 62

-- the planner, with no bucket listed: right after an end it still lists those that were filled
abbrev pub unlisted : Kept → Kept
unlisted ring = record ring { metas = record ring.metas { order = [] } }

-- A planner that runs in the epoch behind the one that stands, in its generation, with so many batches left: it has shown the batches of
-- the open records, whose slots it read as the image holds them.
pub record RunsAt (keys : Keys) (p : Params) (epoch generation left : ℕ) (ring : Kept) (s : RingStanding) (image : Image) : Type 0 where
  pub epoch_is : epoch ≡ s.epoch
  pub generation_is : generation ≡ s.generation
  pub left_are : left + length s.records ≡ p.batches
  pub planner : IsPlannerOf p s.content s.records (unlisted ring)
  pub read : AreRepeated p (slots_in keys p s.content image) (flat_of p s.content) (s.content).rows (ring.stash).rows s.records

-- The store stands for this, with no write that waits for a sync, and the run is at it.
pub record RunIsAt (run : Run) (s : RingStanding) (disk : Disk) : Type 0 where
  pub tells : disk.tells
  pub settled : IsSynced disk
  pub stands : Stands (run.sealer).keys run.params s disk.cells
  pub runs : RunsAt (run.sealer).keys run.params run.epoch (run.sealer).generation run.left run.ring s disk.cells

-- ---- what a fetch makes of it

-- The planner moved by the batch of this record, and nothing else but the counts.
pub record MovesPlanner (p : Params) (r : BatchRecord) (old new : Kept) : Type 0 where
  pub kept : new ≡ record old { book = new.book; metas = new.metas; stash = new.stash }
  pub room : (new.stash).room ≡ (old.stash).room
  pub entries : (k : ℕ) → entry_at new.book k ≡ after_labels (λ i. entry_at old.book i) (record_places p r) k
  pub seals : SameSeals (record old.metas { order = [] }) new.metas
  pub table : (t : FlatTable) → StandsFor old t → StandsFor new (after p t (Batch (asked_of_record p r)))

-- its refusals
abbrev pub IsFetchRefusal : Fault → Type 0
IsFetchRefusal (fault.StoreFault unsure) = unsure ≡ None
IsFetchRefusal (fault.Damaged cell check kept computed) = Unit {0}
IsFetchRefusal (fault.Worn number) = number ≡ 2 ^ 62
IsFetchRefusal _ = ⊥

-- It is refused as worn exactly where too few numbers are left for a batch, and then nothing was done, but that the run is spent.
pub record FetchWears {S T W : Type 0} (old new : Run) (store store' : S) (tape tape' : T) (watch watch' : W) (result : Result (Unit {0}) Fault) : Type 0 where
  pub worn : IsWornOut result ↔ IsWornForBatch old
  pub idle : IsWornOut result → (store' ≡ store) × (tape' ≡ tape) × (watch' ≡ watch) × (new ≡ record old { spent = true })

-- Of the run nothing else changes than these; its room for words stays; and whatever the store tells, a planner that fits goes on fitting.
pub record FetchKeeps (old new : Run) (result : Result (Unit {0}) Fault) : Type 0 where
  pub kept : new ≡ record old { sealer = new.sealer; drawn = new.drawn; left = new.left; spent = new.spent; ring = new.ring; jobs = new.jobs; words = new.words }
  pub words : length (new.words).items ≡ length (old.words).items
  pub fit : IsPlannerFit old.ring → OnOk result (IsPlannerFit new.ring)

-- One batch less is left, and the run serves on; or it was refused: as many are left, the run is spent, and nothing was answered.
pub record FetchCounts (old new : Run) (out out' : List (Option (List ℕ))) (result : Result (Unit {0}) Fault) : Type 0 where
  pub served : OnOk result ((new.left + 1 ≡ old.left) × (new.spent ≡ false))
  pub refused : OnErr result ((new.left ≡ old.left) × (new.spent ≡ true) × (out' ≡ out))

-- no word is drawn where numbers are worn, and else one for each place, whatever is answered
abbrev pub FetchDraws : ℕ → List ℕ → List ℕ → Result (Unit {0}) Fault → Type 0
FetchDraws places old new (Err (fault.Worn number)) = new ≡ old
FetchDraws places old new _ = DrawsWords places old new

-- What is answered where the store tells its cells, and the buckets lie as these were sealed: the batch was read, or what is damaged
-- first.
abbrev pub FetchAnswers : Keys → Params → List Version → Image → FlatTable → BatchRecord → Rows → Rows → Result (Unit {0}) Fault → Type 0
FetchAnswers keys p versions image t r rows rows' (Ok done) = BatchIsRead p (slots_of p versions (plains_in keys image)) t r rows rows'
FetchAnswers keys p versions image t r rows rows' (Err (fault.Damaged cell check kept computed)) =
    IsBatchDamage keys p versions image t r (record { cell = cell; check = check; kept = kept; computed = computed })
FetchAnswers keys p versions image t r rows rows' (Err (fault.StoreFault unsure)) = Unit {0}
FetchAnswers keys p versions image t r rows rows' (Err (fault.Worn number)) = Unit {0}
FetchAnswers keys p versions image t r rows rows' (Err _) = ⊥

-- What is shown of a batch's row with these phases, which begins with its record's notes: nothing where numbers are worn; where the store
-- failed the first of the record's own, or all of the row; and else all of it.
abbrev pub FetchShows : ℕ → (logged : List Note) → List Phase → (row shown : List Note) → Option (List Event) → Option (List Event) → Result (Unit {0}) Fault → Type 0
FetchShows most logged phases row shown old new (Err (fault.Worn number)) = IsRowShown most [] [] shown old new
FetchShows most logged phases row shown old new (Err (fault.StoreFault unsure)) = IsFrontShown most (phases_of logged) logged shown old new ⊎ IsRowShown most phases row shown old new
FetchShows most logged phases row shown old new _ = IsRowShown most phases row shown old new

module _ {S : Type 0} (disk : S → Disk) where
  -- Before any slot was read, the batch's record was open in every image that a crash may leave: the store was this one then. What the
  -- batch reads changes no image.
  pub record IsLoggedFirst (most : ℕ) (keys : Keys) (p : Params) (epoch : ℕ) (r : BatchRecord) (cells : List ℕ) (notes : List Note) (old new : S) (before later : Trace) (result : Result (Unit {0}) Fault) : Type 0 where
    pub between : S
    pub shown : Trace
    pub appended : Tells (append_notes p epoch r.batch) (append_notes p epoch r.batch) (disk old).seen (disk between).seen before shown
    pub logged : (records : List BatchRecord) (c : Image) → (disk old).tells → length records ≡ r.batch → OpenRecords keys p epoch records (disk old).cells → (disk between).may_leave c
        → OpenRecords keys p epoch (records ++ r ∷ []) c
    pub behind : Passes Same (disk between) (disk new)
    pub read : BatchTells most cells notes (disk between).seen (disk new).seen shown later result

  -- The batch's record was open, in every image that a crash may leave, while the store was one between these; and since then no image
  -- has changed.
  pub record IsOpenBetween (keys : Keys) (p : Params) (epoch : ℕ) (r : BatchRecord) (old new : S) : Type 0 where
    pub between : S
    pub logged : (records : List BatchRecord) (c : Image) → (disk old).tells → length records ≡ r.batch → OpenRecords keys p epoch records (disk old).cells → (disk between).may_leave c
        → OpenRecords keys p epoch (records ++ r ∷ []) c
    pub behind : Passes Same (disk between) (disk new)

  -- These notes are the first of those of the record's body, and each image that a crash might have left keeps the records that were there.
  pub record IsBodyAlone (keys : Keys) (p : Params) (epoch batch : ℕ) (notes : List Note) (old new : S) : Type 0 where
    pub made : List Note
    pub cut : IsCut (body_notes p epoch batch) made notes
    pub kept : LeavesOf keys p epoch batch (disk old) (disk old) (disk new) (λ records. OpenRecords keys p epoch records)

  -- Of a fetch that the store refused, these notes are of the record's body alone, and then no image has the record; or they are all of the
  -- record's but the last sync; or the record was open first, and all of its notes were shown. Where numbers are worn there are none.
  abbrev pub IsOpenIfShown : Keys → Params → ℕ → BatchRecord → List Note → S → S → Result (Unit {0}) Fault → Type 0
  IsOpenIfShown keys p epoch r notes old new (Err (fault.StoreFault unsure)) =
      (IsBodyAlone keys p epoch r.batch notes old new ⊎ (notes ≡ gate_notes p epoch r.batch))
      ⊎ (IsOpenBetween keys p epoch r old new × ((more : List Note) × (notes ≡ append_notes p epoch r.batch ++ more)))
  IsOpenIfShown keys p epoch r notes old new (Err (fault.Worn number)) = notes ≡ []
  IsOpenIfShown keys p epoch r notes old new _ = Unit {0}

  -- What a fetch does: the record's writes, and then the batch's reads. Of a store that failed it may be the first writes alone.
  abbrev pub FetchDoes : ℕ → Keys → Params → ℕ → BatchRecord → List ℕ → List Note → S → S → Trace → Trace → Result (Unit {0}) Fault → Type 0
  FetchDoes most keys p epoch r cells notes old new before later (Err (fault.Worn number)) = Tells [] [] (disk old).seen (disk new).seen before later
  FetchDoes most keys p epoch r cells notes old new before later (Err (fault.StoreFault unsure)) =
      TellsFirst (append_notes p epoch r.batch) (disk old).seen (disk new).seen before later
      ⊎ IsLoggedFirst most keys p epoch r cells notes old new before later (Err (fault.StoreFault unsure))
  FetchDoes most keys p epoch r cells notes old new before later result = IsLoggedFirst most keys p epoch r cells notes old new before later result

-- Where the store stood, the keys are answered and it stands with the record; and nothing is damaged.
abbrev pub FetchStands : RingStanding → BatchRecord → List (Option ℕ) → Disk → Run → List (Option (List ℕ)) → Result (Unit {0}) Fault → Type 0
FetchStands s r asks disk run out (Ok done) = RunIsAt run (with_record s r) disk × AreMapValues s.map asks out
FetchStands s r asks disk run out (Err (fault.StoreFault unsure)) = Unit {0}
FetchStands s r asks disk run out (Err (fault.Worn number)) = Unit {0}
FetchStands s r asks disk run out (Err _) = ⊥

-- of a row of steps the first ones were made, as calls of the store
abbrev pub AreFirstMade : List Note → Option (List Event) → Option (List Event) → Type 0
AreFirstMade steps old new = (made : List Note) × (shown : List Note) × IsCut steps made shown × Notes (events_of made) old new

-- At each moment from the one store to the other a crash leaves the head and both registers as that store had them.
abbrev pub KeepsFirst : (start from to : Disk) → Type 0
KeepsFirst start from to = (c : Image) → to.left_since from.moment c → (k : ℕ) → k < 9 → c k ≡ start.cells k

module _ {S : Type 0} (disk : S → Disk) (run : Run) (s : RingStanding) (r : BatchRecord) where
  -- Until the body of the batch's record was synced a crash leaves what stood; while its gate is opened, that or that with the record. No register
  -- is written in either.
  pub record IsRecordInStages (old new : S) : Type 0 where
    pub stages : InTwoStages disk (Notes (events_of (body_notes run.params (suc run.epoch) r.batch))) (Stands (run.sealer).keys run.params s) (OneOf (run.sealer).keys run.params s (with_record s r)) old new
    pub kept : KeepsFirst (disk old) (disk old) (disk stages.between) × KeepsFirst (disk old) (disk stages.between) (disk new)

  -- Until the sync behind the gate of the batch's record the store was called for the record alone, and a crash leaves what stood, or that with
  -- the record. From then on, while the batch is read, it leaves that with the record. No register is written.
  pub record IsFetchInStages (old new : S) : Type 0 where
    pub between : S
    pub made : Notes (events_of (append_notes run.params (suc run.epoch) r.batch)) (disk old).seen (disk between).seen
    pub until : LeavesOnly (disk old) (disk between) (OneOf (run.sealer).keys run.params s (with_record s r))
    pub logs : IsRecordInStages old between
    pub since : LeavesOnly (disk between) (disk new) (Stands (run.sealer).keys run.params (with_record s r))
    pub kept : KeepsFirst (disk old) (disk between) (disk new)

  -- No more than the first of the record's calls were made: those of its body alone, and then a crash leaves what stood; or its gate's too. No
  -- register is written.
  pub record IsFetchCut (old new : S) : Type 0 where
    pub first : AreFirstMade (append_notes run.params (suc run.epoch) r.batch) (disk old).seen (disk new).seen
    pub leaves : LeavesOnly (disk old) (disk new) (OneOf (run.sealer).keys run.params s (with_record s r))
    pub how : (AreFirstMade (body_notes run.params (suc run.epoch) r.batch) (disk old).seen (disk new).seen × LeavesOnly (disk old) (disk new) (Stands (run.sealer).keys run.params s)) ⊎ IsRecordInStages old new
    pub kept : KeepsFirst (disk old) (disk old) (disk new)

  -- Refused by the store it may have come no further than the record; where numbers are worn nothing was done.
  abbrev pub FetchStages : S → S → Result (Unit {0}) Fault → Type 0
  FetchStages old new (Err (fault.StoreFault unsure)) = IsFetchInStages old new ⊎ IsFetchCut old new
  FetchStages old new (Err (fault.Worn number)) = new ≡ old
  FetchStages old new result = IsFetchInStages old new

-- So it is for each standing that the run was at; and a crash at any moment leaves what stood, or that with the record, in this order.
pub record FetchOfStanding {S : Type 0} (disk : S → Disk) (old new : Run) (before behind : S) (r : BatchRecord) (asks : List (Option ℕ)) (out : List (Option (List ℕ))) (result : Result (Unit {0}) Fault) : Type 0 where
  pub stands : (s : RingStanding) → RunIsAt old s (disk before) → FetchStands s r asks (disk behind) new out result
  pub images : (s : RingStanding) → RunIsAt old s (disk before) → LeavesOnly (disk before) (disk behind) (OneOf (old.sealer).keys old.params s (with_record s r))
  pub stages : (s : RingStanding) → RunIsAt old s (disk before) → FetchStages disk old s r before behind result
