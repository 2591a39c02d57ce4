-- Private: places that a hand claims together, and whose cells it reads before it opens them.
use Rattle.std.specs.Prelude.{◌≡◌, ◌<◌, ◌≤◌, ◌+◌, ◌++◌, ℕ, List, [], All, slice_index_or, OnOk, Ok, IfErr, IsErr}
use Rattle.ob_base.specs.Causes.{HasCause}
use Rattle.ob_base.specs.Planned.{job_at}
use Rattle.ob_base.specs.declared.job.Job.{Job}
use Rattle.ob_seal.specs.declared.keys.Keys.{Keys}
use Rattle.ob_store.specs.Disk.{Disk, Image}
use Rattle.ob_store.specs.Calls.{IsStoreFault}
use Rattle.ob_claims.specs.declared.claims.Claims.{Claims}
use Rattle.ob_claims.specs.declared.claims.Round.{Round}
use Rattle.ob_claims.specs.ClaimCalls.{ClaimSeat, IsClaimSeat}
use Rattle.ob_lanes.specs.declared.hand.SealedJobs.{SealedJobs}
use Rattle.ob_lanes.specs.declared.hand.Slot.{Slot}
use Rattle.ob_lanes.specs.declared.window.RawCell.{RawCell}
use Rattle.ob_lanes.specs.Hands.{slot_places}
use Rattle.ob_lanes.specs.JobReads.{IsJobRead, IsReadFault}
use Rattle.ob_lanes.specs.Shares.{RiseFrom}

-- A seat has claimed these places of a round that begins at 0, in order. Where they are fewer than were wanted none is left, and the seat may have claimed a number behind the round.
pub record HaveDrawn (claims : Claims) (round : Round) (wanted got : ℕ) (old new : ClaimSeat) (places : List ℕ) : Type 0 where
  pub own : IsClaimSeat claims new
  pub parts : new.me.0.parts ≡ old.me.0.parts
  pub least : old.me.0.reached ≤ new.me.0.reached
  pub beyond : List ℕ
  pub behind : All (λ x. round.count ≤ x) beyond
  pub claimed : new.me.0.claimed ≡ old.me.0.claimed ++ (places ++ beyond)
  pub rising : RiseFrom old.me.0.reached places
  pub reached : All (λ x. x < new.me.0.reached) places
  pub within : All (λ x. x < round.count) places
  pub more : wanted ≤ got → beyond ≡ []
  pub done : got < wanted → round.start + round.count ≤ new.me.0.reached

-- the place that was claimed as this one of a window, and the cell that was read as it
abbrev pub claimed_at : List ℕ → ℕ → ℕ
claimed_at places i = slice_index_or places i 0

abbrev pub raw_at : List RawCell → ℕ → RawCell
raw_at cells i = slice_index_or cells i (record { bytes = []; read = Ok tt })

-- The bytes are those of the job's cell, where it was read and its bytes are told; where its read failed the count of faults rose.
pub record IsCellRead (disk : Disk) (before now : ℕ) (job : Job) (cell : RawCell) : Type 0 where
  pub bytes : disk.tells → OnOk cell.read (cell.bytes ≡ disk.cells job.cell)
  pub cause : HasCause before now cell.read

-- the cells of the jobs at the first so many places were read
abbrev pub AreCellsRead : Disk → ℕ → ℕ → SealedJobs → ℕ → List ℕ → List RawCell → Type 0
AreCellsRead disk before now asked many places cells = (i : ℕ) → i < many → IsCellRead disk before now (job_at asked.jobs.now (claimed_at places i)) (raw_at cells i)

-- What a job gives whose cell was read so: its bytes opened, and the store's fault only where the read failed.
pub record IsSlotOpened (keys : Keys) (job : Job) (cell : RawCell) (slot : Slot) : Type 0 where
  pub value : (image : Image) → OnOk cell.read (cell.bytes ≡ image job.cell) → IsJobRead keys image job slot.outcome
  pub faults : IfErr slot.outcome IsReadFault
  pub cause : IfErr slot.outcome (λ f. IsStoreFault f → IsErr cell.read)

-- The slot is that of the job at one of the first so many places, as its cell was read.
pub record IsOfWindow (asked : SealedJobs) (many : ℕ) (places : List ℕ) (cells : List RawCell) (slot : Slot) : Type 0 where
  pub at : ℕ
  pub there : at < many
  pub place : slot.place ≡ claimed_at places at
  pub opened : IsSlotOpened asked.sealer.now.keys (job_at asked.jobs.now (claimed_at places at)) (raw_at cells at) slot

-- Behind a part's slots stand those of the jobs at these places.
pub record AreOpened (asked : SealedJobs) (many : ℕ) (places : List ℕ) (cells : List RawCell) (now : List ℕ) (old new : List Slot) : Type 0 where
  pub behind : List Slot
  pub items : new ≡ old ++ behind
  pub at : slot_places behind ≡ now
  pub opened : All (IsOfWindow asked many places cells) behind
