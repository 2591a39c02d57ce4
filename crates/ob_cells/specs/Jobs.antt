-- What jobs read.
use Rattle.std.specs.Prelude.{◌≡◌, ◌<◌, ℕ, List, [], length, Option, Some, None, Result, Ok, Err}
use Rattle.std.specs.Result.{IsOk}
use Rattle.ob_base.specs.declared.fault.Fault.{Fault}
use Rattle.ob_base.specs.declared.fault.Fault.TheVariants.{StoreFault}
use Rattle.ob_base.specs.declared.job.Job.{Job}
use Rattle.ob_base.specs.Planned.{job_at}
use Rattle.ob_seal.specs.declared.keys.Keys.{Keys}
use Rattle.ob_store.specs.declared.event.Event.{Event}
use Rattle.ob_store.specs.Disk.{Image}
use Rattle.ob_store.specs.Calls.{IsStoreFault, Notes}
use Rattle.ob_lanes.specs.declared.hand.Slot.{Slot}
use Rattle.ob_lanes.specs.Hands.{slot_at}
pub use Rattle.ob_lanes.specs.JobReads.{cells_of, IsPlainOf, IsJobFault, IsReadFault, IsJobRead}
use Rattle.ob_cells.specs.declared.error.JobsErr.{JobsErr}
use Rattle.ob_cells.specs.declared.error.JobsErr.TheVariants as error
use Rattle.ob_cells.specs.Lanes.{ReadByLanes}

-- how many lanes a crew may have, and how many jobs it has room for
pub record Manned : Type 0 where
  pub lanes : ℕ
  pub jobs : ℕ

-- what a job gave
abbrev pub job_outcome : List Slot → ℕ → Result (List ℕ) Fault
job_outcome slots i = (slot_at slots i).outcome

abbrev pub plain_of : Result (List ℕ) Fault → List ℕ
plain_of (Ok plain) = plain
plain_of (Err fault) = []

abbrev pub plain_at : List Slot → ℕ → List ℕ
plain_at slots i = plain_of (job_outcome slots i)

-- the first of so many that failed
pub record IsFirstErr (slots : List Slot) (jobs : ℕ) (fault : Fault) : Type 0 where
  pub job : ℕ
  pub within : job < jobs
  pub earlier : (i : ℕ) → i < job → IsOk (job_outcome slots i)
  pub is : job_outcome slots job ≡ Err fault

-- each job has its plain bytes, and is else as before
pub record AreFilled (old new : List Job) (plain : ℕ → List ℕ) : Type 0 where
  pub many : length new ≡ length old
  pub each : (i : ℕ) → i < length old → job_at new i ≡ record (job_at old i) { result = Some (plain i) }

-- each job has the plain bytes that its cell spells
pub record AreJobsRead (keys : Keys) (image : Image) (old new : List Job) : Type 0 where
  pub plain : ℕ → List ℕ
  pub spelled : (i : ℕ) → i < length old → IsPlainOf keys image (job_at old i) (plain i)
  pub filled : AreFilled old new plain

-- the first job that fails, and why
pub record IsFirstFailing (keys : Keys) (image : Image) (jobs : List Job) (fault : Fault) : Type 0 where
  pub job : ℕ
  pub within : job < length jobs
  pub earlier : (i : ℕ) → i < job → (plain : List ℕ) × IsPlainOf keys image (job_at jobs i) plain
  pub fails : IsJobFault keys image (job_at jobs job) fault

-- ---- what a batch of jobs answers

-- what is told where the store tells its cells
abbrev pub AreJobsAnswered : Keys → Image → List Job → List Job → Result (Unit {0}) JobsErr → Type 0
AreJobsAnswered keys image old new (Ok done) = AreJobsRead keys image old new
AreJobsAnswered keys image old new (Err (error.Job fault)) = IsFirstFailing keys image old fault
AreJobsAnswered keys image old new (Err (error.NotBegun fault)) = Unit {0}

-- the refusals: of a lane, or of a job
abbrev pub IsJobsErr : JobsErr → Type 0
IsJobsErr (error.NotBegun fault) = fault ≡ StoreFault None
IsJobsErr (error.Job fault) = IsReadFault fault

-- those that only the store causes
abbrev pub IsBlamed : JobsErr → Type 0
IsBlamed (error.NotBegun fault) = Unit {0}
IsBlamed (error.Job fault) = IsStoreFault fault

-- nothing is read where a lane is refused, and else each job's cell, whatever the others gave
abbrev pub AreSeen : ℕ → List Job → Option (List Event) → Option (List Event) → Result (Unit {0}) JobsErr → Type 0
AreSeen most jobs old new (Ok done) = ReadByLanes most (cells_of jobs) old new
AreSeen most jobs old new (Err (error.Job fault)) = ReadByLanes most (cells_of jobs) old new
AreSeen most jobs old new (Err (error.NotBegun fault)) = Notes [] old new

-- the jobs have their results only where all were read, and are else as before
abbrev pub AreKept : List Job → List Job → Result (Unit {0}) JobsErr → Type 0
AreKept old new (Ok done) = (plain : ℕ → List ℕ) × AreFilled old new plain
AreKept old new (Err e) = new ≡ old
