-- What an append does to a log area.
use Rattle.std.specs.Prelude.{◌≡◌, ◌⊎◌, ℕ, ◌+◌, ◌%◌, ◌^◌, List, [], ◌∷◌, ◌++◌, length, Option, None, Result, Ok, Err}
use Rattle.ob_base.specs.declared.fault.Fault.{Fault}
use Rattle.ob_base.specs.declared.fault.Fault.TheVariants.{StoreFault, Worn}
use Rattle.ob_base.specs.declared.params.Params.{Params}
use Rattle.ob_base.specs.Layout.{record_cells, log_cell, log_gate}
use Rattle.ob_seal.specs.declared.keys.Keys.{Keys}
use Rattle.ob_seal.specs.Sealing.{Sealing}
use Rattle.ob_store.specs.Calls.{Notes}
use Rattle.ob_store.specs.Disk.{Disk, Image}
use Rattle.ob_store.specs.Images.{IsSynced, LeavesOnly, SameOff}
use Rattle.ob_store.specs.Lines.{Trace}
use Rattle.ob_store.specs.Told.{Tells, TellsFirst, events_of}
use Rattle.ob_store.specs.declared.watch.Note.{Note}
use Rattle.ob_store.specs.declared.watch.Note.TheVariants.{Write, Sync}
use Rattle.ob_store.specs.Runs.{write_notes}
use Rattle.ob_twin.specs.Bodies.{open_gate}
use Rattle.ob_log.specs.Logs.{BatchRecord, OpenRecords, SpellsRecord}

-- the record that a sealer makes of a batch
abbrev pub record_for : Sealing → ℕ → ℕ → List (Option ℕ) → List ℕ → BatchRecord
record_for sealer batch first asks words = record { batch = batch; generation = sealer.generation; number = sealer.next; first = first; asks = asks; words = words }

-- the body is written, rising, and synced; then the gate is opened, and synced
abbrev pub append_notes : Params → ℕ → ℕ → List Note
append_notes p epoch batch = (write_notes (log_cell p (epoch % 2) batch 0) (record_cells p) ++ Sync ∷ []) ++ (Write (log_gate p (epoch % 2) batch) ∷ Sync ∷ [])

-- the body alone, with its sync
abbrev pub body_notes : Params → ℕ → ℕ → List Note
body_notes p epoch batch = write_notes (log_cell p (epoch % 2) batch 0) (record_cells p) ++ Sync ∷ []

-- and all but the last sync: the gate's write comes last
abbrev pub gate_notes : Params → ℕ → ℕ → List Note
gate_notes p epoch batch = body_notes p epoch batch ++ Write (log_gate p (epoch % 2) batch) ∷ []

-- The body cells of a batch spell this record, and its gate is open.
pub record HoldsRecord (keys : Keys) (p : Params) (epoch batch : ℕ) (r : BatchRecord) (image : Image) : Type 0 where
  pub body : SpellsRecord keys p epoch batch r image
  pub gate : image (log_gate p (epoch % 2) batch) ≡ open_gate

-- the open records are these, or these and one more
abbrev pub HoldsOneOf : Keys → Params → ℕ → List BatchRecord → BatchRecord → Image → Type 0
HoldsOneOf keys p epoch rs r image = OpenRecords keys p epoch rs image ⊎ OpenRecords keys p epoch (rs ++ r ∷ []) image

-- If the store at the start leaves no image but its cells, which have these open records, then while it goes from the one moment to the other a
-- crash leaves images with these, and no cell differs from then but those of the batch.
abbrev pub LeavesOf : Keys → Params → (epoch batch : ℕ) → (start from to : Disk) → (List BatchRecord → Image → Type 0) → Type 0
LeavesOf keys p epoch batch start from to P = (rs : List BatchRecord) → start.tells → IsSynced start → length rs ≡ batch → OpenRecords keys p epoch rs start.cells
    → LeavesOnly from to (λ c. P rs c × SameOff (log_cell p (epoch % 2) batch 0) (record_cells p + 1) c start.cells)

module _ {S : Type 0} (disk : S → Disk) (keys : Keys) (p : Params) (epoch batch : ℕ) (r : BatchRecord) (old new : S) where
  -- The body was synced, and the store was this one then. Until then a crash leaves the open records that were there, and not one more; while
  -- the gate is opened, these, or these and this one.
  pub record AppendsInStages : Type 0 where
    pub between : S
    pub made : Notes (events_of (body_notes p epoch batch)) (disk old).seen (disk between).seen
    pub until : LeavesOf keys p epoch batch (disk old) (disk old) (disk between) (λ rs. OpenRecords keys p epoch rs)
    pub since : LeavesOf keys p epoch batch (disk old) (disk between) (disk new) (λ rs. HoldsOneOf keys p epoch rs r)

  -- No more than the body was written, or shown; and a crash leaves the open records that were there.
  pub record AppendsBodyAlone (before after : Trace) : Type 0 where
    pub told : TellsFirst (body_notes p epoch batch) (disk old).seen (disk new).seen before after
    pub until : LeavesOf keys p epoch batch (disk old) (disk old) (disk new) (λ rs. OpenRecords keys p epoch rs)

  -- All was written, and shown but for the last sync, which was made or not.
  pub record AppendsUnsure (before after : Trace) : Type 0 where
    pub told : Tells (gate_notes p epoch batch) (gate_notes p epoch batch) (disk old).seen (disk new).seen before after
        ⊎ Tells (append_notes p epoch batch) (gate_notes p epoch batch) (disk old).seen (disk new).seen before after
    pub stages : AppendsInStages

  -- An append that its store refused came no further than its body, or is unsure.
  abbrev pub AppendStages : (before after : Trace) → Result (Unit {0}) Fault → Type 0
  AppendStages before after (Ok done) = AppendsInStages
  AppendStages before after (Err (StoreFault unsure)) = AppendsBodyAlone before after ⊎ AppendsUnsure before after
  AppendStages before after (Err _) = Unit {0}

-- the faults of an append
abbrev pub IsAppendFault : Fault → Type 0
IsAppendFault (Worn number) = number ≡ 2 ^ 62
IsAppendFault (StoreFault unsure) = unsure ≡ None
IsAppendFault _ = ⊥

-- it was refused since too few numbers are left for the body's seals
abbrev pub IsWornOut : Result (Unit {0}) Fault → Type 0
IsWornOut (Err (Worn number)) = Unit {0}
IsWornOut _ = ⊥
