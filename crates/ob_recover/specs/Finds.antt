-- What is found of a ring store's cells.
use Rattle.std.specs.Prelude.{◌≡◌, ◌⊎◌, ℕ, suc, None, List, ◌++◌, Result, Ok, Err}
use Rattle.ob_base.specs.declared.params.Params.{Params}
use Rattle.ob_base.specs.declared.fault.Damaged.{Damaged}
use Rattle.ob_base.specs.declared.fault.Fault.{Fault}
use Rattle.ob_base.specs.declared.fault.Fault.TheVariants as fault
use Rattle.ob_base.specs.Layout.{checkpoint_cells}
use Rattle.ob_store.specs.Disk.{Disk, Image}
use Rattle.ob_store.specs.Lines.{Trace}
use Rattle.ob_store.specs.Told.{Tells, TellsFirst}
use Rattle.ob_store.specs.declared.watch.Note.{Note}
use Rattle.ob_seal.specs.declared.keys.Keys.{Keys}
use Rattle.ob_tables.specs.Buckets.{Buckets}
use Rattle.ob_tables.specs.declared.tables.Tables.{Tables}
use Rattle.ob_cells.specs.Orders.{read_notes}
use Rattle.ob_cells.specs.Reads.{IsFirstDamage}
use Rattle.ob_cells.specs.Runs.{run_at}
use Rattle.ob_twin.specs.Opening.{GatesAre}
use Rattle.ob_twin.specs.Reading.{NoneOpen}
use Rattle.ob_start.specs.Orders.{registers_notes}
use Rattle.ob_start.specs.Registers as start
use Rattle.ob_start.specs.Registers.{IsRegisterDamage}
use Rattle.ob_log.specs.Logs.{RecordsFit}
use Rattle.ob_log.specs.Reads.{AreAccepted, IsFirstBroken, area_notes}
use Rattle.ob_tables.specs.Content.{Obeys, content_of}
use Rattle.ob_check.specs.Fresh.{AreIdle}
use Rattle.ob_check.specs.ReadBack.{IsReadFrom, IsRefusedFrom}
use Rattle.ob_check.specs.Written.{area_of}
use Rattle.ob_stand.specs.Stands.{RingStanding}
use Rattle.ob_recover.specs.declared.found.Found.{Found}

-- The registers tell the generation and the epoch, the checkpoint of the epoch tells the tables, and these are the open records of
-- the epoch after it.
pub record IsFoundInRing (keys : Keys) (p : Params) (image : Image) (found : Found) : Type 0 where
  pub registers : start.Found keys image found.generation found.epoch
  pub generation_gates : GatesAre found.gates.generation 1 image
  pub epoch_gates : GatesAre found.gates.epoch 5 image
  pub tables : IsReadFrom keys p found.epoch image found.tables
  pub records : AreAccepted keys p (suc found.epoch) found.records image

-- both registers are found, and this is what breaks a rule first in the checkpoint: a cell's tag or seal, or else its plain bytes
pub record IsCheckDamage (keys : Keys) (p : Params) (image : Image) (damaged : Damaged) : Type 0 where
  pub generation : ℕ
  pub epoch : ℕ
  pub registers : start.Found keys image generation epoch
  pub first : IsFirstDamage keys (area_of p epoch) (checkpoint_cells p) (run_at (area_of p epoch) image) damaged ⊎ IsRefusedFrom keys p epoch image damaged

-- the checkpoint is found too, and this is what breaks a rule first in the log
pub record IsLogDamage (keys : Keys) (p : Params) (image : Image) (damaged : Damaged) : Type 0 where
  pub generation : ℕ
  pub epoch : ℕ
  pub tables : Tables Buckets
  pub registers : start.Found keys image generation epoch
  pub read : IsReadFrom keys p epoch image tables
  pub first : IsFirstBroken keys p (suc epoch) image damaged

abbrev pub IsFindDamage : Keys → Params → Image → Damaged → Type 0
IsFindDamage keys p image damaged = IsRegisterDamage keys image damaged ⊎ (IsCheckDamage keys p image damaged ⊎ IsLogDamage keys p image damaged)

-- what is answered where the store tells its cells
abbrev pub IsFindOf : Keys → Params → Image → Result Found Fault → Type 0
IsFindOf keys p image (Ok found) = IsFoundInRing keys p image found
IsFindOf keys p image (Err fault.NotStore) = NoneOpen 1 image ⊎ NoneOpen 5 image
IsFindOf keys p image (Err (fault.Damaged cell check kept computed)) = IsFindDamage keys p image (record { cell = cell; check = check; kept = kept; computed = computed })
IsFindOf keys p image (Err (fault.StoreFault unsure)) = Unit {0}
IsFindOf keys p image (Err fault.Memory) = Unit {0}
IsFindOf keys p image (Err _) = ⊥

-- its refusals
abbrev pub IsFindFault : Fault → Type 0
IsFindFault fault.Memory = Unit {0}
IsFindFault fault.NotStore = Unit {0}
IsFindFault (fault.Damaged cell check kept computed) = Unit {0}
IsFindFault (fault.StoreFault unsure) = unsure ≡ None
IsFindFault _ = ⊥

-- ---- what obeys the rules

-- the tables obey the rules of an epoch's end, and the records those of a log
pub record ObeysFound (p : Params) (found : Found) : Type 0 where
  pub content : Obeys p (content_of found.tables)
  pub idle : AreIdle p found.tables
  pub records : RecordsFit p found.records

-- ---- what stands

-- the numbers, the content and the records of what stands
pub record IsFoundOf (s : RingStanding) (found : Found) : Type 0 where
  pub generation : found.generation ≡ s.generation
  pub epoch : found.epoch ≡ s.epoch
  pub content : content_of found.tables ≡ s.content
  pub records : found.records ≡ s.records

-- the content and the records of what stands, in this generation or another
pub record KeepsWhatStood (s : RingStanding) (found : Found) : Type 0 where
  pub content : content_of found.tables ≡ s.content
  pub records : found.records ≡ s.records

-- these are found, unless memory was wanting or the store failed
abbrev pub FindsStanding : RingStanding → Result Found Fault → Type 0
FindsStanding s (Ok found) = IsFoundOf s found
FindsStanding s (Err fault.Memory) = Unit {0}
FindsStanding s (Err (fault.StoreFault unsure)) = Unit {0}
FindsStanding s (Err _) = ⊥

-- ---- the order of the reads

-- both registers, the checkpoint of the epoch, and the whole log area of the epoch after it
abbrev pub finding_notes : Params → ℕ → List Note
finding_notes p epoch = registers_notes ++ (read_notes (area_of p epoch) (checkpoint_cells p) ++ area_notes p (suc epoch))

-- both registers were read and are found, and some of the reads were made, the first ones
pub record FindsPart (keys : Keys) (p : Params) (old new : Disk) (before after : Trace) : Type 0 where
  pub generation : ℕ
  pub epoch : ℕ
  pub registers : old.tells → start.Found keys old.cells generation epoch
  pub told : TellsFirst (finding_notes p epoch) old.seen new.seen before after

-- all the reads; where it is no store those of the registers; else the first ones
abbrev pub FindDoes : Keys → Params → Disk → Disk → Trace → Trace → Result Found Fault → Type 0
FindDoes keys p old new before after (Ok found) = Tells (finding_notes p found.epoch) (finding_notes p found.epoch) old.seen new.seen before after
FindDoes keys p old new before after (Err fault.NotStore) = Tells registers_notes registers_notes old.seen new.seen before after
FindDoes keys p old new before after (Err _) = TellsFirst registers_notes old.seen new.seen before after ⊎ FindsPart keys p old new before after
