-- What was read of jobs, as counts of faults go on, and of a store as it was before.
use Rattle.std.proofs.Common.{◌≡◌, ◌≤◌, ◌<◌, ℕ, zero, suc, List, [], ◌∷◌, length, get_or, Result, Ok, Err, IfErr, refl, sym, subst, arith}
use Rattle.ob_base.specs.Causes.{Rose}
use Rattle.ob_base.specs.declared.fault.Fault.{Fault}
use Rattle.ob_base.specs.declared.fault.Fault.TheVariants.{Damaged, StoreFault}
use Rattle.ob_base.specs.declared.job.Job.{Job}
use Rattle.ob_base.specs.Planned.{job_at}
use Rattle.ob_seal.specs.declared.keys.Keys.{Keys}
use Rattle.ob_store.specs.Disk.{Disk, Image}
use Rattle.ob_store.specs.Calls.{IsStoreFault, Keeps}
use Rattle.ob_lanes.specs.declared.hand.SealedJobs.{SealedJobs}
use Rattle.ob_lanes.specs.declared.hand.Slot.{Slot}
use Rattle.ob_lanes.specs.Hands.{IsReadAt}
use Rattle.ob_lanes.specs.JobReads.{IsDamagedFault, IsJobRead, IsReadFault, IsSlotRead, cells_of}

-- the cell of the job at a place
pub cell_at : (jobs : List Job) (p : ℕ) → get_or (cells_of jobs) p 0 ≡ (job_at jobs p).cell
cell_at [] p = refl
cell_at (j ∷ js) zero = refl
cell_at (j ∷ js) (suc p) = cell_at js p

pub rose_on : (a b c : ℕ) → b ≤ c → Rose a b → Rose a c
rose_on a b c le rose = omega arith

pub rose_from : (a b c : ℕ) → a ≤ b → Rose b c → Rose a c
rose_from a b c le rose = omega arith

if_err_on : {T : Type 0} (P Q : Fault → Type 0) (r : Result T Fault) → ((f : Fault) → P f → Q f) → IfErr r P → IfErr r Q
if_err_on P Q (Ok v) on h = tt
if_err_on P Q (Err f) on h = on f h

-- a count that rose where another did
pub slot_rose : (keys : Keys) (disk : Disk) (before now was is : ℕ) (job : Job) (slot : Slot) → (Rose before now → Rose was is) → IsSlotRead keys disk before now job slot → IsSlotRead keys disk was is job slot
slot_rose keys disk before now was is job slot on read = record { value = read.value; faults = read.faults; cause = if_err_on _ _ slot.outcome (λ f cause blamed. on (cause blamed)) read.cause }

-- a store that has kept its cells
pub slot_home : (keys : Keys) (old made : Disk) (before now : ℕ) (job : Job) (slot : Slot) → Keeps old made → IsSlotRead keys made before now job slot → IsSlotRead keys old before now job slot
slot_home keys old made before now job slot keeps read = record {
  value = λ tells. subst (λ (image : Image). IsJobRead keys image job slot.outcome) (λ i k. keeps.cells tells k i) (read.value (keeps.tells tells));
  faults = read.faults;
  cause = read.cause;
}

pub read_rose : (asked : SealedJobs) (disk : Disk) (before now was is : ℕ) (slot : Slot) → (Rose before now → Rose was is) → IsReadAt asked disk before now slot → IsReadAt asked disk was is slot
read_rose asked disk before now was is slot on read = record { within = read.within; read = slot_rose asked.sealer.now.keys disk before now was is (job_at asked.jobs.now slot.place) slot on read.read }

pub read_home : (asked : SealedJobs) (old made : Disk) (before now : ℕ) (slot : Slot) → Keeps old made → IsReadAt asked made before now slot → IsReadAt asked old before now slot
read_home asked old made before now slot keeps read = record { within = read.within; read = slot_home asked.sealer.now.keys old made before now (job_at asked.jobs.now slot.place) slot keeps read.read }

-- what was read stays so as the count of faults goes on
pub read_on : (asked : SealedJobs) (disk : Disk) (before now later : ℕ) (slot : Slot) → now ≤ later → IsReadAt asked disk before now slot → IsReadAt asked disk before later slot
read_on asked disk before now later slot le read = read_rose asked disk before now before later slot (rose_on before now later le) read

pub read_next : (asked : SealedJobs) (disk : Disk) (before now later place : ℕ) (slot : Slot) → place < length asked.jobs.now → slot.place ≡ place → IsSlotRead asked.sealer.now.keys disk now later (job_at asked.jobs.now place) slot → before ≤ now → IsReadAt asked disk before later slot
read_next asked disk before now later place slot lt is read le = record {
  within = omega (arith, lt, is);
  read = subst (λ (p : ℕ). IsSlotRead asked.sealer.now.keys disk before later (job_at asked.jobs.now p) slot) (sym is)
      (slot_rose asked.sealer.now.keys disk now later before later (job_at asked.jobs.now place) slot (rose_from before now later le) read);
}

-- ---- a job whose cell was read

damage_read : (f : Fault) → IsDamagedFault f → IsReadFault f
damage_read (Damaged cell check kept computed) is = tt
damage_read _ is = absurd is

pub damaged_read : (r : Result (List ℕ) Fault) → IfErr r IsDamagedFault → IfErr r IsReadFault
damaged_read r is = if_err_on IsDamagedFault IsReadFault r damage_read is

damage_unblamed : (rose : Type 0) (f : Fault) → IsDamagedFault f → IsStoreFault f → rose
damage_unblamed rose (StoreFault unsure) is blamed = absurd is
damage_unblamed rose _ is blamed = absurd blamed

pub damaged_unblamed : (rose : Type 0) (r : Result (List ℕ) Fault) → IfErr r IsDamagedFault → IfErr r (λ f. IsStoreFault f → rose)
damaged_unblamed rose r is = if_err_on IsDamagedFault (λ f. IsStoreFault f → rose) r (damage_unblamed rose) is
