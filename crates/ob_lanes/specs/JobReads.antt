-- What reading jobs gives.
use Rattle.std.specs.Prelude.{◌≡◌, ℕ, List, length, map, Some, None, Result, Ok, Err, IfErr}
use Rattle.ob_base.specs.Causes.{Rose}
use Rattle.ob_base.specs.declared.fault.Fault.{Fault}
use Rattle.ob_base.specs.declared.fault.Fault.TheVariants.{Damaged, StoreFault}
use Rattle.ob_base.specs.declared.job.Job.{Job}
use Rattle.ob_seal.specs.declared.keys.Keys.{Keys}
use Rattle.ob_seal.specs.Damage.{IsDamage}
use Rattle.ob_seal.specs.Seals.{sealed}
use Rattle.ob_store.specs.Disk.{Disk, Image}
use Rattle.ob_store.specs.Calls.{IsStoreFault}
use Rattle.ob_lanes.specs.declared.hand.Slot.{Slot}

abbrev pub cells_of : List Job → List ℕ
cells_of jobs = map (λ j. j.cell) jobs

-- a job's cell spells these plain bytes under the job's identity
pub record IsPlainOf (keys : Keys) (image : Image) (job : Job) (plain : List ℕ) : Type 0 where
  pub whole : length plain ≡ 96
  pub spelled : image job.cell ≡ sealed keys job.cell job.generation job.number plain

-- why a job fails: its read was refused, or its cell is damaged
abbrev pub IsJobFault : Keys → Image → Job → Fault → Type 0
IsJobFault keys image job (StoreFault unsure) = unsure ≡ None
IsJobFault keys image job (Damaged cell check kept computed) =
    IsDamage keys job.cell (Some (job.generation, job.number)) (image job.cell) (record { cell = cell; check = check; kept = kept; computed = computed })
IsJobFault keys image job _ = ⊥

-- the faults of jobs
abbrev pub IsReadFault : Fault → Type 0
IsReadFault (StoreFault unsure) = unsure ≡ None
IsReadFault (Damaged cell check kept computed) = Unit {0}
IsReadFault _ = ⊥

-- those of a job whose cell was read
abbrev pub IsDamagedFault : Fault → Type 0
IsDamagedFault (Damaged cell check kept computed) = Unit {0}
IsDamagedFault _ = ⊥

-- what reading a job answers
abbrev pub IsJobRead : Keys → Image → Job → Result (List ℕ) Fault → Type 0
IsJobRead keys image job (Ok plain) = IsPlainOf keys image job plain
IsJobRead keys image job (Err fault) = IsJobFault keys image job fault

-- A job was read: what its cell gives, where that is told. It fails by the store's fault only where the count of faults rose.
pub record IsSlotRead (keys : Keys) (disk : Disk) (before now : ℕ) (job : Job) (slot : Slot) : Type 0 where
  pub value : disk.tells → IsJobRead keys disk.cells job slot.outcome
  pub faults : IfErr slot.outcome IsReadFault
  pub cause : IfErr slot.outcome (λ f. IsStoreFault f → Rose before now)
