-- What a read of a log area answers.
use Rattle.std.specs.Prelude.{◌≡◌, ◌≢◌, ◌⊎◌, ◌<◌, ◌≤◌, ℕ, ◌+◌, ◌*◌, ◌%◌, List, length, Some, None, Result, Ok, Err}
use Rattle.ob_base.specs.declared.params.Params.{Params}
use Rattle.ob_base.specs.declared.fault.Damaged.{Damaged}
use Rattle.ob_base.specs.declared.fault.Fault.{Fault}
use Rattle.ob_base.specs.declared.fault.Fault.TheVariants.{Damaged as Broken, StoreFault, Memory}
use Rattle.ob_base.specs.Layout.{record_cells, log_cell, log_gate}
use Rattle.ob_seal.specs.declared.keys.Keys.{Keys}
use Rattle.ob_seal.specs.Pieces.{piece}
use Rattle.ob_store.specs.Disk.{Image}
use Rattle.ob_store.specs.declared.watch.Note.{Note}
use Rattle.ob_twin.specs.Bodies.{open_gate}
use Rattle.ob_cells.specs.declared.run.Identity.{Identity}
use Rattle.ob_cells.specs.Orders.{read_notes}
use Rattle.ob_cells.specs.Runs.{IsRun, run_at}
use Rattle.ob_cells.specs.Reads.{IsFirstDamage}
use Rattle.ob_log.specs.Logs.{BatchRecord, record_at}
use Rattle.ob_log.specs.Places.{plain_damage, record_in}

-- Body cells from a cell on have these plain bytes, under seals from this one on.
abbrev pub HasBody : Keys → Params → ℕ → Identity → List ℕ → (ℕ → List ℕ) → Type 0
HasBody keys p cell first bytes cells = (length bytes ≡ 96 * record_cells p) × IsRun keys cell (record_cells p) first (λ i. piece i bytes) cells

-- They tell this record, and break no rule. Words, the place of the first one and what stands behind the places are not tested.
pub record IsBody (keys : Keys) (p : Params) (epoch b cell : ℕ) (cells : ℕ → List ℕ) (r : BatchRecord) : Type 0 where
  pub first : Identity
  pub bytes : List ℕ
  pub body : HasBody keys p cell first bytes cells
  pub whole : plain_damage p epoch b cell bytes ≡ None
  pub tells : r ≡ record_in p b first.generation first.number bytes

-- Their plain bytes break a rule.
pub record IsMisformedRecord (keys : Keys) (p : Params) (epoch b cell : ℕ) (cells : ℕ → List ℕ) (damaged : Damaged) : Type 0 where
  pub first : Identity
  pub bytes : List ℕ
  pub body : HasBody keys p cell first bytes cells
  pub broken : plain_damage p epoch b cell bytes ≡ Some damaged

-- what is told of a body that is no record: first of a cell's tag or seal, then of its plain bytes
abbrev pub IsBodyDamage : Keys → Params → ℕ → ℕ → ℕ → (ℕ → List ℕ) → Damaged → Type 0
IsBodyDamage keys p epoch b cell cells damaged = IsFirstDamage keys cell (record_cells p) cells damaged ⊎ IsMisformedRecord keys p epoch b cell cells damaged

-- what is read of body cells
abbrev pub IsBodyRead : Keys → Params → ℕ → ℕ → ℕ → (ℕ → List ℕ) → Result BatchRecord Damaged → Type 0
IsBodyRead keys p epoch b cell cells (Ok r) = IsBody keys p epoch b cell cells r
IsBodyRead keys p epoch b cell cells (Err damaged) = IsBodyDamage keys p epoch b cell cells damaged

-- the cells of a batch's body
abbrev pub body_cells : Params → ℕ → ℕ → Image → ℕ → List ℕ
body_cells p epoch b image = run_at (log_cell p (epoch % 2) b 0) image

abbrev pub Accepts : Keys → Params → ℕ → ℕ → Image → BatchRecord → Type 0
Accepts keys p epoch b image r = IsBody keys p epoch b (log_cell p (epoch % 2) b 0) (body_cells p epoch b image) r

-- these are the records before the first closed gate
pub record AreAccepted (keys : Keys) (p : Params) (epoch : ℕ) (rs : List BatchRecord) (image : Image) : Type 0 where
  pub few : length rs ≤ p.batches
  pub opened : (b : ℕ) → b < length rs → image (log_gate p (epoch % 2) b) ≡ open_gate
  pub ends : length rs < p.batches → image (log_gate p (epoch % 2) (length rs)) ≢ open_gate
  pub each : (b : ℕ) → b < length rs → Accepts keys p epoch b image (record_at rs b)

-- the first body before the first closed gate that is no record
pub record IsFirstBroken (keys : Keys) (p : Params) (epoch : ℕ) (image : Image) (damaged : Damaged) : Type 0 where
  pub earlier : List BatchRecord
  pub few : length earlier < p.batches
  pub opened : (b : ℕ) → b ≤ length earlier → image (log_gate p (epoch % 2) b) ≡ open_gate
  pub each : (b : ℕ) → b < length earlier → Accepts keys p epoch b image (record_at earlier b)
  pub breaks : IsBodyDamage keys p epoch (length earlier) (log_cell p (epoch % 2) (length earlier) 0) (body_cells p epoch (length earlier) image) damaged

-- what a read of the open records answers
abbrev pub AreRecordsRead : Keys → Params → ℕ → Image → Result (List BatchRecord) Fault → Type 0
AreRecordsRead keys p epoch image (Ok rs) = AreAccepted keys p epoch rs image
AreRecordsRead keys p epoch image (Err (Broken cell check kept computed)) = IsFirstBroken keys p epoch image (record { cell = cell; check = check; kept = kept; computed = computed })
AreRecordsRead keys p epoch image (Err _) = Unit {0}

-- the answer is these records, unless memory was wanting or the store failed
abbrev pub AreReadBack : List BatchRecord → Result (List BatchRecord) Fault → Type 0
AreReadBack rs (Ok read) = read ≡ rs
AreReadBack rs (Err (Broken cell check kept computed)) = ⊥
AreReadBack rs (Err _) = Unit {0}

-- the reads of a log area
abbrev pub area_notes : Params → ℕ → List Note
area_notes p epoch = read_notes (log_cell p (epoch % 2) 0 0) (p.batches * (record_cells p + 1))

-- the faults of a read of the open records
abbrev pub IsRecordReadFault : Fault → Type 0
IsRecordReadFault Memory = Unit {0}
IsRecordReadFault (Broken cell check kept computed) = Unit {0}
IsRecordReadFault (StoreFault unsure) = unsure ≡ None
IsRecordReadFault _ = ⊥
