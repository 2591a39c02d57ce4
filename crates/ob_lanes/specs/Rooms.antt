-- What readers have room for, and what they have read.
use Rattle.std.specs.Prelude.{◌≡◌, ◌<◌, ◌≤◌, ◌+◌, ◌*◌, ◌^◌, ℕ, List, [], All, length, max, vec_capacity}
use Rattle.std.specs.Int.{div_ceil}
use Rattle.ob_base.specs.declared.job.Job.{Job}
use Rattle.ob_base.specs.Planned.{job_at}
use Rattle.ob_seal.specs.declared.keys.Keys.{Keys}
use Rattle.ob_store.specs.Disk.{Disk}
use Rattle.ob_claims.specs.ClaimCalls.{HasEveryPart, IsClaimSeat, parts_made}
use Rattle.ob_lanes.specs.declared.hand.Slot.{Slot}
use Rattle.ob_lanes.specs.declared.readers.Readers.{Readers}
use Rattle.ob_lanes.specs.Hands.{slot_at}
use Rattle.ob_lanes.specs.JobReads.{IsSlotRead}

-- the most lanes, and the most jobs
abbrev pub lanes_of : {L : Type 0} → Readers L → ℕ
lanes_of readers = length readers.parts.items

abbrev pub jobs_of : {L : Type 0} → Readers L → ℕ
jobs_of readers = length readers.slots.items

-- Readers of which no lane is out, at most 16, and one seat has all parts. A lane's part has room for at least twice its share.
pub record AreReaders {L : Type 0} (readers : Readers L) : Type 0 where
  pub some : 1 ≤ lanes_of readers
  pub few : lanes_of readers ≤ 16
  pub small : jobs_of readers + lanes_of readers + 1 ≤ 2 ^ 62
  pub own : IsClaimSeat readers.claims readers.seat
  pub whole : HasEveryPart readers.claims readers.seat
  pub seats : parts_made readers.claims ≡ lanes_of readers + 1
  pub none : readers.hands.items ≡ []
  pub hands_room : lanes_of readers ≤ vec_capacity readers.hands
  pub parts_room : lanes_of readers ≤ vec_capacity readers.parts
  pub each_room : All (λ p. max 1 (2 * div_ceil (jobs_of readers) (lanes_of readers)) ≤ vec_capacity p) readers.parts.items

-- the readers are as large as before
pub record AreAsLarge {L : Type 0} (old new : Readers L) : Type 0 where
  pub readers : AreReaders new
  pub lanes : lanes_of new ≡ lanes_of old
  pub jobs : jobs_of new ≡ jobs_of old

-- each job was read, and what it gave stands at its place
abbrev pub AreSlotsRead : Keys → Disk → ℕ → ℕ → List Job → List Slot → Type 0
AreSlotsRead keys disk before now jobs slots = (i : ℕ) → i < length jobs → IsSlotRead keys disk before now (job_at jobs i) (slot_at slots i)
