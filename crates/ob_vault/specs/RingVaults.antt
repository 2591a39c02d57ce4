-- What a ring vault holds, and what its calls do.
use Rattle.std.specs.Prelude.{◌≡◌, ◌↔◌, ℕ, suc, ◌+◌, ◌<◌, ◌≤◌, false, List, [], ◌∷◌, ◌++◌, map, length, Option, None, Result, Ok, Err, IfErr, OnOk}
use Rattle.std.specs.Borrow.{GName}
use Rattle.std.specs.FinMap as finite
use Rattle.std.specs.Ordering.{nat_cmp}
use Rattle.ob_base.specs.Layout.{record_cells}
use Rattle.ob_base.specs.declared.fault.Fault.{Fault}
use Rattle.ob_base.specs.declared.fault.Fault.TheVariants as fault
use Rattle.ob_base.specs.declared.params.Params.{Params}
use Rattle.ob_base.specs.declared.value.Write.{Write}
use Rattle.ob_cells.specs.Lanes.{ReadByLanes}
use Rattle.ob_tables.specs.Buckets.{Buckets}
use Rattle.ob_cells.specs.Writes.{Seals}
use Rattle.ob_tables.specs.Content.{Content}
use Rattle.ob_end.specs.Closings.{SameGeneration}
use Rattle.ob_end.specs.EndRuns.{AreEntriesWritten, EndAnswers, EndDamage, EndDraws, EndImages, EndStands, IfEnded, IsAtContent, IsEndUndamaged, LeadsOn, TakeBucketWords, end_writes, seals_for_end, table_ended}
use Rattle.ob_end.specs.Moments.{EndSpans, EndStages}
use Rattle.ob_end.specs.EndWrites.{SameFirst}
use Rattle.ob_end.specs.Shown.{EndShows}
use Rattle.ob_end.specs.Stops.{EndStops}
use Rattle.ob_end.specs.Lifts.{IsUndamaged}
use Rattle.ob_fetch.specs.declared.run.Run.{Run}
use Rattle.ob_fetch.specs.Fetches.{FetchAnswers, FetchDraws, FetchShows, FetchStages, IsFetchRefusal, IsOpenIfShown, IsWornForBatch, MovesPlanner, RunIsAt, next_batch, record_next, words_since}
use Rattle.ob_log.specs.Appends.{IsWornOut, append_notes}
use Rattle.ob_log.specs.Logs.{BatchRecord, OpenRecords}
use Rattle.ob_pads.specs.Seals.{CellsAreSealed, ClearBy, answer_of_end}
use Rattle.ob_recover.specs.Repeats.{asked_of_record, batch_cells}
use Rattle.ob_ring.specs.FlatTable.{FlatTable}
use Rattle.ob_ring.specs.Picked.{SameSeals}
use Rattle.ob_ring.specs.Ring.{StandsFor}
use Rattle.ob_recover.specs.Ends.{gates_ended}
use Rattle.ob_recover.specs.Known.{PlansFrom, fills_of, fills_with_lifts, public_of_kept}
use Rattle.ob_schedule.specs.Phases.{batch_phases, end_phases}
use Rattle.ob_schedule.specs.Schedule.{batch_notes, end_lifts, end_notes}
use Rattle.ob_seal.specs.declared.keys.Keys.{Keys}
use Rattle.ob_serial.specs.Serial.{Map}
use Rattle.ob_serial.specs.declared.vault.EndErr.{EndErr}
use Rattle.ob_serial.specs.declared.vault.EndErr.TheVariants.{Before, Unsure}
use Rattle.ob_serial.specs.VaultViews.{IsEndFault}
use Rattle.ob_serial.specs.Vaults.{DoubtBy, End, Ended, Fetch, MayStand, RefusedBy, StandsIn, Values, VaultAnswer, VaultCall, VaultCounts, VaultState, counts_of}
use Rattle.ob_stand.specs.Stands.{OneOf, RingStanding, StandsRing, with_record}
use Rattle.ob_store.specs.Calls.{GoesOn, Notes}
use Rattle.ob_store.specs.Disk.{Disk, Image}
use Rattle.ob_store.specs.Images.{IsImageOf, LeavesOnly, Passes, Same}
use Rattle.ob_store.specs.Told.{events_of}
use Rattle.ob_store.specs.declared.watch.Note.{Note}
use Rattle.ob_tables.specs.declared.entry.Entry.{Entry}
use Rattle.ob_opening.specs.declared.opening.Opening.{Opening}
use Rattle.ob_twin.specs.Opening.{GatesAre}

-- a disk with two references more
abbrev pub lent_both : GName → GName → Disk → Disk
lent_both store tape disk = record disk { anchors = store ∷ tape ∷ disk.anchors }

-- what a vault runs with that is made of an opening
abbrev pub run_over : {L : Type 0} → Opening L → Run
run_over o = record { params = o.params; gates = o.gates; sealer = o.sealer; drawn = 0; epoch = o.epoch; left = o.left; spent = false; ring = o.ring; jobs = o.jobs; sheet = o.sheet; words = o.words }

abbrev pub counts_of_run : Run → VaultCounts
counts_of_run run = record { epoch = run.epoch; left = run.left; spent = run.spent }

-- what a vault holds that was opened where this stood, with its map
abbrev pub opened_ring : {L : Type 0} → Opening L → RingStanding → Map nat_cmp → VaultState
opened_ring o s content = record { batches = (o.params).batches; epoch = s.epoch; content = content; left = o.left; spent = false; doubt = None }

-- ---- what it holds

-- While it serves, the store stands for an epoch that the run is at, with the map that is held, and no end is in doubt.
pub record RingServes (run : Run) (disk : Disk) (v : VaultState) : Type 0 where
  pub standing : RingStanding
  pub at : RunIsAt run standing disk
  pub map : (k : ℕ) → standing.map k ≡ finite.get v.content k
  pub no_doubt : v.doubt ≡ None

pub record RingHolds (run : Run) (disk : Disk) (v : VaultState) : Type 0 where
  pub counts_are : counts_of v ≡ counts_of_run run
  pub batches : v.batches ≡ (run.params).batches
  pub serves : v.spent ≡ false → RingServes run disk v

-- And each image that a crash may leave, and what reads give, stands for what that allows.
pub record RingSound (run : Run) (disk : Disk) (v : VaultState) : Type 0 where
  pub holds : RingHolds run disk v
  pub images : (c : Image) → IsImageOf disk c → StandsIn (StandsRing (run.sealer).keys run.params (run.sealer).generation) (MayStand v) c

-- ---- what its calls do

-- what a call goes from, and what it leads to: the store, the generation that the tape is in and the words of it drawn so far, how many
-- lanes may read at once, and the run
pub record Running (S : Type 0) : Type 0 where
  pub store : S
  pub present : ℕ
  pub drawn : List ℕ
  pub lanes : ℕ
  pub run : Run

abbrev pub running : {S : Type 0} → S → (present : ℕ) → List ℕ → ℕ → Run → Running S
running store present drawn lanes run = record { store = store; present = present; drawn = drawn; lanes = lanes; run = run }

-- the planner has shown the batches of these records, from this content on
abbrev pub HasPlanned : Run → Content → List BatchRecord → Type 0
HasPlanned run c rs = PlansFrom run.params (run.sealer).generation run.gates run.ring c rs

-- a write, of the pair that it is
abbrev pub write_from : ℕ × Option (List ℕ) → Write
write_from w = record { key = w.0; value = w.1 }

-- Before a slot of the batch was read, its record was open in every image that a crash may leave: the store was this one then. What the
-- batch reads changes no image.
pub record IsOpenFirst {S : Type 0} (disk : S → Disk) (most : ℕ) (keys : Keys) (p : Params) (epoch : ℕ) (r : BatchRecord) (cells : List ℕ) (old new : S) : Type 0 where
  pub between : S
  pub appended : Notes (events_of (append_notes p epoch r.batch)) (disk old).seen (disk between).seen
  pub logged : (records : List BatchRecord) (c : Image) → (disk old).tells → length records ≡ r.batch → OpenRecords keys p epoch records (disk old).cells → (disk between).may_leave c
      → OpenRecords keys p epoch (records ++ r ∷ []) c
  pub behind : Passes Same (disk between) (disk new)
  pub read : ReadByLanes most cells (disk between).seen (disk new).seen

-- where all of its slots were read
abbrev pub IfRead : Type 0 → Result (Unit {0}) Fault → Type 0
IfRead A (Ok done) = A
IfRead A (Err (fault.Damaged cell check kept computed)) = A
IfRead A (Err _) = Unit {0}

module _ {S : Type 0} (disk : S → Disk) (old new : Running S) (notes : List Note) where
  -- the words that were drawn
  abbrev pub words_of_call : List ℕ
  words_of_call = words_since old.drawn new.drawn

  -- What every call leaves, whatever it answers: the parameters, the lanes, the keys and the generation that it seals with; the tape is in
  -- that one, and stays there; the words drawn stand behind those drawn before, and are counted; the store goes on, and neither its head nor
  -- its register of generations is written.
  pub record KeepsRun : Type 0 where
    pub params : (new.run).params ≡ (old.run).params
    pub lanes : new.lanes ≡ old.lanes
    pub keys : ((new.run).sealer).keys ≡ ((old.run).sealer).keys
    pub generation : ((new.run).sealer).generation ≡ ((old.run).sealer).generation
    pub on : ((old.run).sealer).next ≤ ((new.run).sealer).next
    pub was_present : old.present ≡ ((old.run).sealer).generation
    pub present : new.present ≡ old.present
    pub was_drawn : (old.run).drawn ≡ length old.drawn
    pub drawn : (new.run).drawn ≡ length new.drawn
    pub grows : new.drawn ≡ old.drawn ++ words_of_call
    pub goes : GoesOn (disk old.store) (disk new.store)
    pub moments : Passes SameGeneration (disk old.store) (disk new.store)

  -- each cell that has changed behind the registers is a gate, or is sealed with a number of its own, taken meanwhile
  abbrev pub SealsCells : Type 0
  SealsCells = CellsAreSealed (old.run).sealer (new.run).sealer (disk old.store).cells (disk new.store).cells

  -- A fetch: its record has the words that were drawn, with the id of the first.
  module _ (asks : List (Option ℕ)) where
    abbrev pub record_of_fetch : BatchRecord
    record_of_fetch = record_next old.run asks words_of_call

    pub record FetchCalled (result : Result (Unit {0}) Fault) : Type 0 where
      pub run : KeepsRun
      -- answered, the store tells its cells again
      pub tells : OnOk result ((disk old.store).tells → (disk new.store).tells)
      pub some_left : 0 < (old.run).left
      pub whole : length asks ≡ ((old.run).params).places
      pub epoch : (new.run).epoch ≡ (old.run).epoch
      pub gates : (new.run).gates ≡ (old.run).gates
      pub left : OnOk result ((new.run).left + 1 ≡ (old.run).left)
      -- its refusals; worn exactly where numbers are; and where the store tells its cells, what is damaged first, none where it stood
      pub refusal : IfErr result IsFetchRefusal
      pub worn : IsWornOut result ↔ IsWornForBatch old.run
      pub idle : IsWornOut result → new.store ≡ old.store
      pub answers : (start : Buckets) (t : FlatTable) → SameSeals start ((old.run).ring).metas → StandsFor (old.run).ring t → (disk old.store).tells
          → FetchAnswers ((old.run).sealer).keys (old.run).params start.versions (disk new.store).cells t record_of_fetch (((old.run).ring).stash).rows (((new.run).ring).stash).rows result
      pub undamaged : (s : RingStanding) → RunIsAt old.run s (disk old.store) → IsUndamaged result
      pub sealed : (disk old.store).tells → OnOk result SealsCells
      -- the head and the registers stay, in each image too
      pub registers : Passes SameFirst (disk old.store) (disk new.store)
      pub first : (disk new.store).tells → (cell : ℕ) → cell ≤ 8 → (disk new.store).cells cell ≡ (disk old.store).cells cell
      -- a word for each place, or none where numbers are worn
      pub draws : FetchDraws ((old.run).params).places old.drawn new.drawn result
      pub seals : Seals (record_cells (old.run).params) (old.run).sealer (new.run).sealer result
      -- its notes are the schedule's batch of what the store knows, filled by the labels and slots of the table's picks, and its reads are
      -- dealt to the lanes; refused they are what its answer says of that row, which begins with the record's
      pub scheduled : (c : Content) (rs : List BatchRecord) → HasPlanned old.run c rs → length rs ≡ next_batch old.run
          → FetchShows old.lanes (append_notes (old.run).params (suc (old.run).epoch) (next_batch old.run))
          (batch_phases (old.run).params (public_of_kept (old.run).params c rs (old.run).epoch (old.run).gates) (fills_of (old.run).params c (rs ++ record_of_fetch ∷ [])) (length rs))
          (batch_notes (old.run).params (public_of_kept (old.run).params c rs (old.run).epoch (old.run).gates) (fills_of (old.run).params c (rs ++ record_of_fetch ∷ [])) (length rs)) notes (disk old.store).seen (disk new.store).seen result
      -- behind it the store knows the record's batch too
      pub onward : (c : Content) (rs : List BatchRecord) → HasPlanned old.run c rs → length rs ≡ next_batch old.run → OnOk result (HasPlanned new.run c (rs ++ record_of_fetch ∷ []))
      -- its record was open before its slots were read
      pub logged : (t : FlatTable) → StandsFor (old.run).ring t
          → IfRead (IsOpenFirst disk old.lanes ((old.run).sealer).keys (old.run).params (suc (old.run).epoch) record_of_fetch
          (batch_cells (old.run).params (((old.run).ring).metas).versions t (asked_of_record (old.run).params record_of_fetch)) old.store new.store) result
      -- and of one that the store refused no more was shown than the record's own writes, or its record was open before the rest
      pub shown : IsOpenIfShown disk ((old.run).sealer).keys (old.run).params (suc (old.run).epoch) record_of_fetch notes old.store new.store result
      -- each key that was asked for has the id and the leaf of its place's word
      pub moves : OnOk result (MovesPlanner (old.run).params record_of_fetch (old.run).ring (new.run).ring)
      -- where the store stood, it stands with the record behind it, and with it or without it at each moment
      pub stands : (s : RingStanding) → RunIsAt old.run s (disk old.store) → OnOk result (RunIsAt new.run (with_record s record_of_fetch) (disk new.store))
      pub images : (s : RingStanding) → RunIsAt old.run s (disk old.store) → LeavesOnly (disk old.store) (disk new.store) (OneOf ((old.run).sealer).keys (old.run).params s (with_record s record_of_fetch))
      -- first the record, then the batch
      pub stages : (s : RingStanding) → RunIsAt old.run s (disk old.store) → FetchStages disk old.run s record_of_fetch old.store new.store result

  -- An end: the i-th write takes the i-th word, and the buckets the words behind.
  module _ (writes : List Write) where
    abbrev pub writes_of_end : List (Write × Entry)
    writes_of_end = end_writes (old.run).params writes words_of_call ((old.run).sealer).generation (old.run).drawn

    pub record EndCalled (result : Result (Unit {0}) EndErr) : Type 0 where
      pub run : KeepsRun
      -- answered, the store tells its cells again
      pub tells : OnOk result ((disk old.store).tells → (disk new.store).tells)
      pub none_left : (old.run).left ≡ 0
      pub few : length writes ≤ ((old.run).params).writes
      pub epoch : OnOk result ((new.run).epoch ≡ suc (old.run).epoch)
      pub left : OnOk result ((new.run).left ≡ ((old.run).params).batches)
      pub gates : OnOk result ((new.run).gates ≡ gates_ended (old.run).gates (old.run).epoch)
      pub knows : (disk old.store).tells → OnOk result (GatesAre ((new.run).gates).epoch 5 (disk new.store).cells)
      -- its refusals, and exactly when each comes; of damage, where the store tells its cells, what comes first, none where it stood
      pub refusal : IfErr result (IsEndFault ((old.run).epoch + 1))
      pub answers : (t : FlatTable) → StandsFor (old.run).ring t → EndAnswers (old.run).params t (old.run).epoch (old.run).drawn ((old.run).sealer).next writes_of_end result
      pub damage : (start : Buckets) (t : FlatTable) → SameSeals start ((old.run).ring).metas → StandsFor (old.run).ring t → (disk old.store).tells
          → EndDamage ((old.run).sealer).keys (old.run).params start.versions (disk new.store).cells t result
      pub undamaged : (s : RingStanding) → RunIsAt old.run s (disk old.store) → IsEndUndamaged result
      pub sealed : (disk old.store).tells → IfEnded SealsCells result
      -- the head stays, and each cell of the registers, or has what a register writes there; refused, but for one whose write was
      pub clear : (disk new.store).tells → ClearBy (answer_of_end result) ((old.run).sealer).keys (disk new.store).seen (disk old.store).cells (disk new.store).cells
      pub draws : (t : FlatTable) → StandsFor (old.run).ring t → EndDraws (old.run).params t (old.run).epoch (old.run).drawn old.drawn new.drawn result
      pub seals : (t : FlatTable) → StandsFor (old.run).ring t → Seals (seals_for_end (old.run).params t) (old.run).sealer (new.run).sealer result
      -- its notes are the schedule's end of what the store knows, and the lifts' reads are dealt to the lanes; refused they are what its
      -- answer says of that row: up to the write that opens the register's gate where it is unsure, the first of what comes before that
      -- where the store failed, or the lifts' reads
      pub scheduled : (c : Content) (rs : List BatchRecord) → HasPlanned old.run c rs
          → EndShows old.lanes (end_lifts (old.run).params (public_of_kept (old.run).params c rs (old.run).epoch (old.run).gates) (fills_with_lifts (old.run).params c rs))
          (end_phases (old.run).params (public_of_kept (old.run).params c rs (old.run).epoch (old.run).gates) (fills_with_lifts (old.run).params c rs))
          (end_notes (old.run).params (public_of_kept (old.run).params c rs (old.run).epoch (old.run).gates) (fills_with_lifts (old.run).params c rs)) notes (disk old.store).seen (disk new.store).seen result
      -- and by how many of that row's notes weren't shown it then leaves the register's gates
      pub stops : (c : Content) (rs : List BatchRecord) → HasPlanned old.run c rs
          → EndStops ((old.run).sealer).keys (old.run).gates (old.run).epoch (disk old.store) (disk new.store) (end_notes (old.run).params (public_of_kept (old.run).params c rs (old.run).epoch (old.run).gates) (fills_with_lifts (old.run).params c rs)) notes result
      -- behind it the store knows what the schedule's end leaves
      pub onward : (c : Content) (rs : List BatchRecord) → HasPlanned old.run c rs → OnOk result (LeadsOn (old.run).params ((old.run).sealer).generation c rs (old.run).epoch (old.run).gates (new.run).ring (new.run).gates)
      -- the table then: lifted, written, and filled anew; the words of the writes' places are their keys', and those behind the buckets'
      pub table : (t : FlatTable) → StandsFor (old.run).ring t → IfEnded (StandsFor (new.run).ring (table_ended (old.run).params t writes_of_end)) result
      pub entries : IfEnded (AreEntriesWritten writes_of_end (old.run).ring (new.run).ring) result
      pub filled : (t : FlatTable) → StandsFor (old.run).ring t → IfEnded (TakeBucketWords (old.run).params t words_of_call ((old.run).sealer).generation ((old.run).sealer).next (old.run).ring (new.run).ring) result
      pub content : IfEnded (IsAtContent (old.run).params (new.run).ring) result
      -- where the store stood, it stands for the next epoch behind it, and for either once the register's gate is written
      pub stands : (s : RingStanding) → RunIsAt old.run s (disk old.store) → EndStands s writes_of_end (disk new.store) new.run result
      pub images : (s : RingStanding) → RunIsAt old.run s (disk old.store) → LeavesOnly (disk old.store) (disk new.store) (EndImages ((old.run).sealer).keys (old.run).params s writes_of_end new.run result)
      -- first all else, then the register
      pub stages : (s : RingStanding) → RunIsAt old.run s (disk old.store) → EndStages disk old.lanes s writes_of_end old.run new.run old.store new.store result
      -- and with the register's gates, in the stages of its set
      pub spans : (s : RingStanding) → RunIsAt old.run s (disk old.store) → EndSpans disk old.lanes s writes_of_end old.run new.run old.store new.store result

  abbrev pub RingCalled : VaultCall → VaultAnswer → Type 0
  RingCalled (Fetch asks) (Values out) = FetchCalled asks (Ok tt)
  RingCalled (Fetch asks) (RefusedBy fault) = FetchCalled asks (Err fault)
  RingCalled (End writes) Ended = EndCalled (map write_from writes) (Ok tt)
  RingCalled (End writes) (RefusedBy fault) = EndCalled (map write_from writes) (Err (Before fault))
  RingCalled (End writes) (DoubtBy fault) = EndCalled (map write_from writes) (Err (Unsure fault))
  RingCalled _ _ = ⊥
