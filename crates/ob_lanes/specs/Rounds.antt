-- Private: lanes that are made for a phase, and taken back.
use Rattle.std.specs.Prelude.{◌≡◌, ◌<◌, ◌≤◌, ◌+◌, ℕ, List, All, [], ◌∷◌, ◌++◌, length, Option, Some, None, vec_capacity}
use Rattle.std.specs.List.{flat_map}
use Rattle.ob_store.specs.declared.event.Event.{Event}
use Rattle.ob_store.specs.Disk.{Disk}
use Rattle.ob_store.specs.Calls.{Notes, NotesLane, IsFreshLane, AddsFaults}
use Rattle.ob_claims.specs.declared.claims.Claims.{Claims}
use Rattle.ob_claims.specs.declared.claims.Round.{Round}
use Rattle.ob_claims.specs.ClaimCalls.{IsClaimSeat, HasCome}
use Rattle.ob_claims.specs.ClaimRule.{both_holds, times}
use Rattle.ob_lanes.specs.declared.hand.Hand.{Hand}
use Rattle.ob_lanes.specs.declared.hand.SealedJobs.{SealedJobs}
use Rattle.ob_lanes.specs.declared.readers.Readers.{Readers}
use Rattle.ob_lanes.specs.Hands.{IsHandRead, IsHandReady, IsReadAt, reads_of, slot_at}
use Rattle.ob_lanes.specs.Placing.{AreSlotsPlaced}
use Rattle.ob_lanes.specs.Rooms.{jobs_of}
use Rattle.ob_lanes.specs.Shares.{RiseFrom, all_places}

-- the hand at a place, where one is
abbrev pub hand_in : {L : Type 0} → Option (Hand L) → List (Hand L)
hand_in None = []
hand_in (Some hand) = hand ∷ []

-- the hands at these places
abbrev pub hands_in : {L : Type 0} → List (Option (Hand L)) → List (Hand L)
hands_in places = flat_map hand_in places

-- each part, also of a hand that is out, has room for so many
pub record HaveRoom {L : Type 0} (room : ℕ) (readers : Readers L) : Type 0 where
  pub home : All (λ p. room ≤ vec_capacity p) readers.parts.items
  pub out : All (λ hand. room ≤ vec_capacity hand.part) (hands_in readers.hands.items)

-- A lane of a store that told this has read nothing.
pub record IsFreshHand {L : Type 0} (lane_seen : L → Option (List Event)) (lane_faults : L → ℕ) (made : Option (List Event)) (hand : Hand L) : Type 0 where
  pub faults : lane_faults hand.lane ≡ 0
  pub seen : IsFreshLane made (lane_seen hand.lane)

-- a hand that has claimed nothing, with one part of the claims' seat
pub record IsLentHand {L : Type 0} (claims : Claims) (round : Round) (hand : Hand L) : Type 0 where
  pub ready : IsHandReady claims round hand
  pub one : hand.seat.me.0.parts ≡ 1

-- Of the readers' seat a part is lent to each hand that is out, and a place of their parts; nothing is claimed.
pub record AreLent {L : Type 0} (round : Round) (whole now : Readers L) : Type 0 where
  pub claims : now.claims ≡ whole.claims
  pub start : round.start ≡ 0
  pub own : IsClaimSeat now.claims now.seat
  pub come : HasCome now.seat round
  pub unclaimed : now.seat.me.0.claimed ≡ []
  pub there : length (hands_in now.hands.items) ≡ length now.hands.items
  pub seats : now.seat.me.0.parts + length now.hands.items ≡ whole.seat.me.0.parts + length whole.hands.items
  pub many : length now.hands.items + length now.parts.items ≡ length whole.hands.items + length whole.parts.items
  pub slots : now.slots ≡ whole.slots
  pub hands_room : vec_capacity now.hands ≡ vec_capacity whole.hands
  pub parts_room : vec_capacity now.parts ≡ vec_capacity whole.parts
  pub each_room : (room : ℕ) → HaveRoom room whole → HaveRoom room now

-- the lane of a hand is taken back, where a hand is
abbrev pub IsBack : {L : Type 0} → (L → Option (List Event)) → (L → ℕ) → Option (Hand L) → Disk → Disk → Type 0
IsBack lane_seen lane_faults (Some hand) old new = NotesLane (lane_seen hand.lane) old.seen new.seen × AddsFaults (lane_faults hand.lane) old.faults new.faults
IsBack lane_seen lane_faults None old new = new.seen ≡ old.seen

-- a hand that comes back has a seat of these readers, and slots of their places
abbrev pub IsReturned : {L : Type 0} → Readers L → Option (Hand L) → Type 0
IsReturned readers (Some hand) = IsClaimSeat readers.claims hand.seat × All (λ s. s.place < jobs_of readers) hand.part.items
IsReturned readers None = Unit {0}

-- the readers have a hand's parts of the seat and what it has claimed, its part, and what it has read in its places
pub record TakesHand {L : Type 0} (old new : Readers L) (hand : Hand L) : Type 0 where
  pub claims : new.claims ≡ old.claims
  pub own : IsClaimSeat new.claims new.seat
  pub seat : new.seat.me.0 ≡ both_holds old.seat.me.0 hand.seat.me.0
  pub hands : new.hands ≡ old.hands
  pub parts : new.parts.items ≡ old.parts.items ++ hand.part ∷ []
  pub room : vec_capacity new.parts ≡ vec_capacity old.parts
  pub placed : AreSlotsPlaced hand.part.items (length hand.part.items) old.slots.items new.slots.items

abbrev pub IsTaken : {L : Type 0} → Option (Hand L) → Readers L → Readers L → Type 0
IsTaken (Some hand) old new = TakesHand old new hand
IsTaken None old new = new ≡ old

-- a hand that was lent has read what it claimed
pub record HasHandRead {L : Type 0} (disk : Disk) (lane_seen : L → Option (List Event)) (lane_faults : L → ℕ) (claims : Claims) (round : Round) (asked : SealedJobs) (hand : Hand L) : Type 0 where
  pub first : Hand L
  pub fresh : IsFreshHand lane_seen lane_faults disk.seen first
  pub one : first.seat.me.0.parts ≡ 1
  pub read : IsHandRead disk lane_seen lane_faults claims round asked first hand

-- The hands that are out have read what they claimed, and there is room for what they bring back.
pub record AreHandsOut {L : Type 0} (disk : Disk) (lane_seen : L → Option (List Event)) (lane_faults : L → ℕ) (round : Round) (asked : SealedJobs) (readers : Readers L) : Type 0 where
  pub own : IsClaimSeat readers.claims readers.seat
  pub start : round.start ≡ 0
  pub count : round.count ≡ length asked.jobs.now
  pub there : length (hands_in readers.hands.items) ≡ length readers.hands.items
  pub read : All (HasHandRead disk lane_seen lane_faults readers.claims round asked) (hands_in readers.hands.items)
  pub room : length readers.parts.items + length readers.hands.items ≤ vec_capacity readers.parts
  pub slots : length asked.jobs.now ≤ jobs_of readers

-- So many hands were taken back: each read the jobs at the places of its share, which the seat has now claimed, and what they gave stands there.
pub record AreGathered {L : Type 0} (asked : SealedJobs) (many : ℕ) (old new : Disk) (before after : Readers L) : Type 0 where
  pub shares : List (List ℕ)
  pub few : length shares ≡ many
  pub rising : All (RiseFrom 0) shares
  pub within : All (λ share. All (λ p. p < length asked.jobs.now) share) shares
  pub seen : Notes (flat_map (reads_of asked) shares) old.seen new.seen
  pub claims : after.claims ≡ before.claims
  pub own : IsClaimSeat after.claims after.seat
  pub seats : after.seat.me.0.parts ≡ before.seat.me.0.parts + many
  pub claimed : (p : ℕ) → p < length asked.jobs.now → times p after.seat.me.0.claimed ≡ times p before.seat.me.0.claimed + times p (all_places shares)
  pub long : jobs_of after ≡ jobs_of before
  pub read : (p : ℕ) → 0 < times p (all_places shares) → IsReadAt asked old old.faults new.faults (slot_at after.slots.items p) × ((slot_at after.slots.items p).place ≡ p)
  pub parts : length after.parts.items ≡ length before.parts.items + many
  pub parts_room : vec_capacity after.parts ≡ vec_capacity before.parts
  pub hands_room : vec_capacity after.hands ≡ vec_capacity before.hands
  pub each_room : (room : ℕ) → HaveRoom room before → HaveRoom room after
