-- What the final lifts of an epoch read, answer and show.
use Rattle.std.specs.Prelude.{◌≡◌, ◌⊎◌, ℕ, List, map, None, Some, Result, Ok, Err}
use Rattle.ob_base.specs.declared.params.Params.{Params}
use Rattle.ob_base.specs.declared.job.Job.{Job}
use Rattle.ob_base.specs.declared.fault.Damaged.{Damaged}
use Rattle.ob_base.specs.declared.fault.Fault.{Fault}
use Rattle.ob_base.specs.declared.fault.Fault.TheVariants as fault
use Rattle.ob_cells.specs.Jobs.{IsFirstFailing}
use Rattle.ob_tables.specs.Version.{Version}
use Rattle.ob_tables.specs.Content.{Rows}
use Rattle.ob_ring.specs.FlatTable.{FlatTable}
use Rattle.ob_ring.specs.Picked.{Picked, final_picked, job_of}
use Rattle.ob_ring.specs.Settling.{first_fault, rows_after}
use Rattle.ob_schedule.specs.Paths.{eviction_path}
use Rattle.ob_seal.specs.declared.keys.Keys.{Keys}
use Rattle.ob_stand.specs.Reads.{plains_in}
use Rattle.ob_store.specs.Disk.{Image}
use Rattle.ob_store.specs.declared.watch.Note.{Note}
use Rattle.ob_store.specs.declared.watch.Note.TheVariants as note
use Rattle.ob_stand.specs.Carries.{Slots, AreRead}
use Rattle.ob_stand.specs.Runs.{slots_of}

-- what the table's final lifts pick, and the jobs of that before they are read
abbrev pub lifts_picked : Params → FlatTable → List Picked
lifts_picked p t = final_picked p t (eviction_path p t.counter)

abbrev pub lift_jobs : Params → List Version → FlatTable → List Job
lift_jobs p versions t = map (job_of p versions) (lifts_picked p t)

abbrev pub lift_cells : Params → List Version → FlatTable → List ℕ
lift_cells p versions t = map (λ j. j.cell) (lift_jobs p versions t)

abbrev pub lift_notes : Params → List Version → FlatTable → List Note
lift_notes p versions t = map (λ j. note.Read j.cell) (lift_jobs p versions t)

-- They were read: each has the slot of its index, none breaks a rule, and their rows joined the stash.
pub record LiftsAreRead (p : Params) (slots : Slots) (t : FlatTable) (rows rows' : Rows) : Type 0 where
  pub jobs : List Job
  pub read : AreRead slots (lifts_picked p t) jobs
  pub faultless : first_fault jobs ≡ None
  pub rows_are : rows' ≡ rows_after rows jobs

-- they were read, and this is the first row that breaks its form
pub record IsLiftRowDamage (p : Params) (slots : Slots) (t : FlatTable) (damaged : Damaged) : Type 0 where
  pub jobs : List Job
  pub read : AreRead slots (lifts_picked p t) jobs
  pub first : first_fault jobs ≡ Some damaged

-- what is damaged of them: the first job that fails, by its cell's tag or seal, or else the first row
abbrev pub IsLiftDamage : Keys → Params → List Version → Image → FlatTable → Damaged → Type 0
IsLiftDamage keys p versions image t damaged =
    IsFirstFailing keys image (lift_jobs p versions t) (fault.Damaged damaged.cell damaged.check damaged.kept damaged.computed)
    ⊎ IsLiftRowDamage p (slots_of p versions (plains_in keys image)) t damaged

-- what is answered where the store tells its cells
abbrev pub LiftsAnswer : Keys → Params → List Version → Image → FlatTable → Rows → Rows → Result (Unit {0}) Fault → Type 0
LiftsAnswer keys p versions image t rows rows' (Ok done) = LiftsAreRead p (slots_of p versions (plains_in keys image)) t rows rows'
LiftsAnswer keys p versions image t rows rows' (Err (fault.Damaged cell check kept computed)) =
    IsLiftDamage keys p versions image t (record { cell = cell; check = check; kept = kept; computed = computed })
LiftsAnswer keys p versions image t rows rows' (Err (fault.StoreFault unsure)) = Unit {0}
LiftsAnswer keys p versions image t rows rows' (Err _) = ⊥

-- nothing is told damaged
abbrev pub IsUndamaged : Result (Unit {0}) Fault → Type 0
IsUndamaged (Err (fault.Damaged cell check kept computed)) = ⊥
IsUndamaged _ = Unit {0}
