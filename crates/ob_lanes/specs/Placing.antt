-- Private: what lanes have read, put in the places of the jobs.
use Rattle.std.specs.Prelude.{◌≡◌, ◌<◌, ◌≤◌, ◌++◌, ℕ, List, All, Option, length, take}
use Rattle.ob_claims.specs.ClaimRule.{times}
use Rattle.ob_lanes.specs.declared.hand.SealedJobs.{SealedJobs}
use Rattle.ob_lanes.specs.declared.hand.Slot.{Slot}
use Rattle.ob_store.specs.declared.event.Event.{Event}
use Rattle.ob_store.specs.Disk.{Disk}
use Rattle.ob_store.specs.Calls.{Notes}
use Rattle.ob_lanes.specs.declared.readers.Readers.{Readers}
use Rattle.ob_lanes.specs.Hands.{IsReadAt, slot_places, reads_of, slot_at}
use Rattle.ob_lanes.specs.Shares.{RiseFrom}

-- Of the first so many slots of a part each stands at its place, and all others stand as they were.
pub record AreSlotsPlaced (part : List Slot) (many : ℕ) (old new : List Slot) : Type 0 where
  pub long : length new ≡ length old
  pub placed : (p : ℕ) → 0 < times p (slot_places (take many part)) → (k : ℕ) × (k < many) × ((slot_at part k).place ≡ p) × (slot_at new p ≡ slot_at part k)
  pub others : (p : ℕ) → times p (slot_places (take many part)) ≡ 0 → slot_at new p ≡ slot_at old p

-- What was left was claimed, in rising places above all that the seat had seen, and read into them by one lane; all others stand as they were.
pub record AreLeftRead {L : Type 0} (disk : Disk) (lane_seen : L → Option (List Event)) (lane_faults : L → ℕ) (asked : SealedJobs) (lane_old lane_new : L) (old new : Readers L) : Type 0 where
  pub left : List ℕ
  pub beyond : List ℕ
  pub behind : All (λ x. length asked.jobs.now ≤ x) beyond
  pub claimed : new.seat.me.0.claimed ≡ old.seat.me.0.claimed ++ (left ++ beyond)
  pub rising : RiseFrom old.seat.me.0.reached left
  pub within : All (λ p. p < length asked.jobs.now) left
  pub seen : Notes (reads_of asked left) (lane_seen lane_old) (lane_seen lane_new)
  pub long : length new.slots.items ≡ length old.slots.items
  pub read : (p : ℕ) → 0 < times p left → IsReadAt asked disk (lane_faults lane_old) (lane_faults lane_new) (slot_at new.slots.items p) × ((slot_at new.slots.items p).place ≡ p)
  pub others : (p : ℕ) → times p left ≡ 0 → slot_at new.slots.items p ≡ slot_at old.slots.items p
