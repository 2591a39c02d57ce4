-- What hands read.
use Rattle.std.specs.Prelude.{◌≡◌, ◌<◌, ◌≤◌, ◌+◌, ℕ, List, [], ◌++◌, ◌⊎◌, length, map, All, slice_index_or, Option, Some, None, Ok, vec_capacity}
use Rattle.ob_base.specs.Planned.{job_at}
use Rattle.ob_store.specs.declared.event.Event.{Event}
use Rattle.ob_store.specs.Disk.{Disk}
use Rattle.ob_store.specs.Calls.{Notes}
use Rattle.ob_claims.specs.declared.claims.Claims.{Claims}
use Rattle.ob_claims.specs.declared.claims.Round.{Round}
use Rattle.ob_claims.specs.ClaimCalls.{IsClaimSeat, HasCome}
use Rattle.ob_lanes.specs.declared.hand.SealedJobs.{SealedJobs}
use Rattle.ob_lanes.specs.declared.hand.Slot.{Slot}
use Rattle.ob_lanes.specs.declared.hand.Hand.{Hand}
use Rattle.ob_lanes.specs.JobReads.{IsSlotRead, cells_of}
use Rattle.ob_lanes.specs.Shares.{RiseFrom, reads_at}

abbrev pub slot_at : List Slot → ℕ → Slot
slot_at slots i = slice_index_or slots i (record { place = 0; outcome = Ok [] })

abbrev pub hand_at : {L : Type 0} → List (Option (Hand L)) → ℕ → Option (Hand L)
hand_at hands i = slice_index_or hands i None

abbrev pub slot_places : List Slot → List ℕ
slot_places slots = map (λ s. s.place) slots

-- the reads of the jobs at these places
abbrev pub reads_of : SealedJobs → List ℕ → List Event
reads_of asked places = reads_at (cells_of asked.jobs.now) places

-- The job at a slot's place was read.
pub record IsReadAt (asked : SealedJobs) (disk : Disk) (before now : ℕ) (slot : Slot) : Type 0 where
  pub within : slot.place < length asked.jobs.now
  pub read : IsSlotRead asked.sealer.now.keys disk before now (job_at asked.jobs.now slot.place) slot

-- a hand that has read nothing, at a round that begins at 0
pub record IsHandReady {L : Type 0} (claims : Claims) (round : Round) (hand : Hand L) : Type 0 where
  pub own : IsClaimSeat claims hand.seat
  pub come : HasCome hand.seat round
  pub start : round.start ≡ 0
  pub unclaimed : hand.seat.me.0.claimed ≡ []
  pub empty : hand.part.items ≡ []

-- The hand's seat has claimed the places of its part, in order, and may have claimed a number behind the round.
pub record HasClaimed {L : Type 0} (claims : Claims) (round : Round) (hand : Hand L) : Type 0 where
  pub own : IsClaimSeat claims hand.seat
  pub come : HasCome hand.seat round
  pub beyond : List ℕ
  pub behind : All (λ x. round.count ≤ x) beyond
  pub claimed : hand.seat.me.0.claimed ≡ slot_places hand.part.items ++ beyond
  pub rising : RiseFrom 0 (slot_places hand.part.items)
  pub reached : All (λ x. x < hand.seat.me.0.reached) (slot_places hand.part.items)

-- A hand has read the jobs at the places that it claimed, in order, whatever became of each.
pub record IsHandRead {L : Type 0} (disk : Disk) (lane_seen : L → Option (List Event)) (lane_faults : L → ℕ) (claims : Claims) (round : Round) (asked : SealedJobs) (old new : Hand L) : Type 0 where
  pub seat : HasClaimed claims round new
  pub parts : new.seat.me.0.parts ≡ old.seat.me.0.parts
  pub read : All (IsReadAt asked disk (lane_faults old.lane) (lane_faults new.lane)) new.part.items
  pub seen : Notes (reads_of asked (slot_places new.part.items)) (lane_seen old.lane) (lane_seen new.lane)
  pub later : lane_faults old.lane ≤ lane_faults new.lane
  pub room : vec_capacity new.part ≡ vec_capacity old.part

-- its part is full, or no place of the round is left
abbrev pub IsHandDone : {L : Type 0} → Round → Hand L → Type 0
IsHandDone round hand = (vec_capacity hand.part ≤ length hand.part.items) ⊎ (round.start + round.count ≤ hand.seat.me.0.reached)

-- a hand that is there is ready
abbrev pub IsPlaceReady : {L : Type 0} → Claims → Round → Option (Hand L) → Type 0
IsPlaceReady claims round (Some hand) = IsHandReady claims round hand
IsPlaceReady claims round None = Unit {0}

-- a hand is where one was, and has read the jobs that it claimed, to the end
abbrev pub IsPlaceRead : {L : Type 0} → Disk → (L → Option (List Event)) → (L → ℕ) → Claims → Round → SealedJobs → Option (Hand L) → Option (Hand L) → Type 0
IsPlaceRead disk lane_seen lane_faults claims round asked (Some old) (Some new) = IsHandRead disk lane_seen lane_faults claims round asked old new × IsHandDone round new
IsPlaceRead disk lane_seen lane_faults claims round asked (Some old) None = ⊥
IsPlaceRead disk lane_seen lane_faults claims round asked None (Some new) = ⊥
IsPlaceRead disk lane_seen lane_faults claims round asked None None = Unit {0}

-- each hand that is there is ready, and the round is of these jobs
abbrev pub ArePlacesReady : {L : Type 0} → Claims → Round → SealedJobs → List (Option (Hand L)) → Type 0
ArePlacesReady claims round asked hands = (round.count ≡ length asked.jobs.now) × ((i : ℕ) → i < length hands → IsPlaceReady claims round (hand_at hands i))

-- hands are where some were, and each has read so
abbrev pub ArePlacesRead : {L : Type 0} → Disk → (L → Option (List Event)) → (L → ℕ) → Claims → Round → SealedJobs → List (Option (Hand L)) → List (Option (Hand L)) → Type 0
ArePlacesRead disk lane_seen lane_faults claims round asked old new =
    (length new ≡ length old) × ((i : ℕ) → i < length old → IsPlaceRead disk lane_seen lane_faults claims round asked (hand_at old i) (hand_at new i))
