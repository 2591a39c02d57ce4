-- For tests: what is known of a run that serves.
use Rattle.std.specs.Prelude.{◌≡◌, ℕ, ◌<◌, ◌≤◌, ◌^◌, false, List, length, replicate, Some}
use Rattle.ob_base.specs.Planned.{most_jobs}
use Rattle.ob_base.specs.Tree.{buckets}
use Rattle.ob_base.specs.declared.value.Write.{Write}
use Rattle.ob_cells.specs.Jobs.{Manned}
use Rattle.ob_end.specs.EndRuns.{IsEndReady}
use Rattle.ob_fetch.specs.declared.run.Run.{Run}
use Rattle.ob_ring.specs.Writing.{write_at}
use Rattle.ob_store.specs.Disk.{Disk}
use Rattle.ob_twin.specs.Opening.{GatesAre}

-- Its store, the generation of its tape and the words drawn of that, the run, what reads its jobs, and what its ends count are as its calls need them.
pub record IsServing (disk : Disk) (present : ℕ) (drawn : List ℕ) (run : Run) (crew : Manned) (index : List ℕ) : Type 0 where
  pub out : disk.out ≡ 0
  pub ready : IsEndReady run
  pub serves : run.spent ≡ false
  pub crew_is : most_jobs run.params ≤ crew.jobs
  pub generation : present ≡ (run.sealer).generation
  pub drawn_are : run.drawn ≡ length drawn
  pub few : run.drawn ≤ 2 ^ 62
  pub told : disk.tells → GatesAre (run.gates).epoch 5 disk.cells
  pub counted : index ≡ replicate (buckets run.params) 0

-- each write is of a key below these, with a value of at most 64 bytes
pub record AreFitWrites (keys : ℕ) (writes : List Write) : Type 0 where
  pub low : (i : ℕ) → i < length writes → (write_at writes i).key < keys
  pub short : (i : ℕ) (value : List ℕ) → i < length writes → (write_at writes i).value ≡ Some value → length value ≤ 64
