-- Hands of a mirror, whose jobs are read by the first half, and where that failed by the second.
use Rattle.std.specs.Prelude.{◌≡◌, ◌≤◌, ◌<◌, ℕ, List, [], ◌∷◌, ◌++◌, ◌^◌, length, if◌then◌else◌, Bool, Option, Some, None, Result, Ok, Err, true, false, slice_index_or, vec_capacity}
use Rattle.std.specs.List.{filter}
use Rattle.ob_base.specs.declared.fault.Fault.{Fault}
use Rattle.ob_base.specs.declared.fault.Fault.TheVariants.{StoreFault}
use Rattle.ob_base.specs.Planned.{job_at}
use Rattle.ob_store.specs.declared.event.Event.{Event}
use Rattle.ob_store.specs.declared.store.Store.{Ghosts}
use Rattle.ob_store.specs.Disk.{Disk}
use Rattle.ob_store.specs.Calls.{Notes}
use Rattle.ob_claims.specs.declared.claims.Claims.{Claims}
use Rattle.ob_claims.specs.declared.claims.Round.{Round}
use Rattle.ob_lanes.specs.Hands.{IsHandDone, IsHandRead, reads_of, slot_at, slot_places}
use Rattle.ob_lanes.specs.JobReads.{IsSlotRead}
use Rattle.ob_lanes.specs.declared.hand.SealedJobs.{SealedJobs}
use Rattle.ob_lanes.specs.declared.hand.Slot.{Slot}
use Rattle.ob_lanes.specs.declared.hand.Hand.{Hand}
use Rattle.ob_mirror.specs.declared.lane.MirrorLane.{MirrorLane}
use Rattle.ob_mirror.specs.declared.lane.SecondLane.{SecondLane}
use Rattle.ob_mirror.specs.Both.{saturating_sum}
use Rattle.ob_mirror.specs.Telling.{LaneTells, TellsReads, TellsSome, ToldRead, changes}

-- whether a read was refused
abbrev pub is_refused : Result (List ℕ) Fault → Bool
is_refused (Ok plain) = false
is_refused (Err (StoreFault unsure)) = true
is_refused (Err _) = false

-- the slots whose read failed
abbrev pub failed_in : List Slot → List Slot
failed_in slots = filter (λ s. is_refused s.outcome) slots

-- each slot whose read failed is counted as a refusal
abbrev pub with_refusals : List Slot → ℕ → ℕ
with_refusals [] failed = failed
with_refusals (slot ∷ slots) failed = with_refusals slots (if is_refused slot.outcome then saturating_sum failed 1 else failed)

-- A slot that was read stays; the job of one that wasn't is read of this disk.
pub record IsMended (asked : SealedJobs) (disk : Disk) (before now : ℕ) (old new : Slot) : Type 0 where
  pub place : new.place ≡ old.place
  pub good : is_refused old.outcome ≡ false → new ≡ old
  pub bad : is_refused old.outcome ≡ true → IsSlotRead asked.sealer.now.keys disk before now (job_at asked.jobs.now old.place) new

-- Of these slots just those whose read failed were read again, in their order. Each is a read of both, and fails where it failed again.
pub record AreMended {M : Type 0} (asked : SealedJobs) (disk : Disk) (seen : M → Option (List Event)) (faults : M → ℕ) (old new : List Slot) (before after : SecondLane M) : Type 0 where
  pub many : length new ≡ length old
  pub each : (i : ℕ) → i < length old → IsMended asked disk (faults before.lane) (faults after.lane) (slot_at old i) (slot_at new i)
  pub reads : Notes (reads_of asked (slot_places (failed_in old))) (seen before.lane) (seen after.lane)
  pub later : faults before.lane ≤ faults after.lane
  pub failed : after.failed ≡ with_refusals new before.failed
  pub few : before.failed < 2 ^ 64
  pub log : after.reads.events ≡ before.reads.events ++ reads_of asked (slot_places old)

module _ {A B L M : Type 0} {ga : Ghosts A L} {gb : Ghosts B M} (seen_a : L → Option (List Event)) (faults_a : L → ℕ) (seen_b : M → Option (List Event)) (faults_b : M → ℕ) (a b : Disk) (claims : Claims) (round : Round) (asked : SealedJobs) where
  -- A lane of the first half read all jobs that a hand claimed, and one of the second just those that failed.
  pub record IsHandReadOfEither (old new : Hand (MirrorLane A B L M ga gb)) : Type 0 where
    pub tried : Hand L
    pub first : IsHandRead a seen_a faults_a claims round asked (record { lane = old.lane.first; seat = old.seat; part = old.part }) tried
    pub done : IsHandDone round tried
    pub second : AreMended asked b seen_b faults_b tried.part.items new.part.items old.lane.second new.lane.second
    pub lane : new.lane.first ≡ tried.lane
    pub seat : new.seat ≡ tried.seat
    pub room : vec_capacity new.part ≡ vec_capacity old.part

  -- a hand is where one was, and so read
  abbrev pub IsPlaceReadOfEither : Option (Hand (MirrorLane A B L M ga gb)) → Option (Hand (MirrorLane A B L M ga gb)) → Type 0
  IsPlaceReadOfEither (Some old) (Some new) = IsHandReadOfEither old new
  IsPlaceReadOfEither (Some old) None = ⊥
  IsPlaceReadOfEither None (Some new) = ⊥
  IsPlaceReadOfEither None None = Unit {0}

-- a hand of a mirror as one of the first half and a lane of the second
abbrev pub IsParted : {A B L M : Type 0} {ga : Ghosts A L} {gb : Ghosts B M} → Option (Hand (MirrorLane A B L M ga gb)) → Option (Hand L) → Option (SecondLane M) → Type 0
IsParted (Some h) (Some f) (Some s) = (f ≡ record { lane = h.lane.first; seat = h.seat; part = h.part }) × (s ≡ h.lane.second)
IsParted None None None = Unit {0}
IsParted (Some h) None s = ⊥
IsParted (Some h) (Some f) None = ⊥
IsParted None (Some f) s = ⊥
IsParted None None (Some s) = ⊥

abbrev pub lane_at : {M : Type 0} → List (Option (SecondLane M)) → ℕ → Option (SecondLane M)
lane_at lanes i = slice_index_or lanes i None

-- A hand was put together of one of the first half and a lane of the second, which has read again what failed.
pub record IsHandMended {A B L M : Type 0} {ga : Ghosts A L} {gb : Ghosts B M} (asked : SealedJobs) (b : Disk) (seen : M → Option (List Event)) (faults : M → ℕ) (first : Hand L) (second : SecondLane M) (new : Hand (MirrorLane A B L M ga gb)) : Type 0 where
  pub mended : AreMended asked b seen faults first.part.items new.part.items second new.lane.second
  pub lane : new.lane.first ≡ first.lane
  pub seat : new.seat ≡ first.seat
  pub room : vec_capacity new.part ≡ vec_capacity first.part

-- each slot of a hand has the place of a job
abbrev pub HasPlacesOfJobs : {L : Type 0} → SealedJobs → Option (Hand L) → Type 0
HasPlacesOfJobs asked None = Unit {0}
HasPlacesOfJobs asked (Some hand) = (i : ℕ) → i < length hand.part.items → (slot_at hand.part.items i).place < length asked.jobs.now

abbrev pub IsPlaceMended : {A B L M : Type 0} {ga : Ghosts A L} {gb : Ghosts B M} → SealedJobs → Disk → (M → Option (List Event)) → (M → ℕ) → Option (Hand L) → Option (SecondLane M) → Option (Hand (MirrorLane A B L M ga gb)) → Type 0
IsPlaceMended asked b seen faults (Some first) (Some second) (Some new) = IsHandMended asked b seen faults first second new
IsPlaceMended asked b seen faults (Some first) (Some second) None = ⊥
IsPlaceMended asked b seen faults (Some first) None new = Unit {0}
IsPlaceMended asked b seen faults None second new = new ≡ None

-- Lanes of both halves that were those of a mirror's tell so.
abbrev pub TellLanes : {L M : Type 0} → (L → Option (List Event)) → (L → ℕ) → (M → Option (List Event)) → Option (Hand L) → Option (SecondLane M) → Type 0
TellLanes seen_a faults_a seen_b (Some first) (Some second) = ∥ LaneTells second.reads.events (seen_a first.lane) (seen_b second.lane) (faults_a first.lane) ∥₁
TellLanes seen_a faults_a seen_b (Some first) None = Unit {0}
TellLanes seen_a faults_a seen_b None second = Unit {0}

-- And where the first half's has read the jobs of its part since then, and the second's log doesn't have these reads yet.
pub record LaneTellsPart {L M : Type 0} (seen_a : L → Option (List Event)) (faults_a : L → ℕ) (seen_b : M → Option (List Event)) (asked : SealedJobs) (first : Hand L) (second : SecondLane M) : Type 0 where
  pub only : changes second.reads.events ≡ []
  pub same : TellsReads (second.reads.events ++ reads_of asked (slot_places first.part.items)) (seen_a first.lane)
  pub again : TellsSome second.reads.events (seen_b second.lane)
  pub failed : ToldRead (seen_b second.lane) → 0 < faults_a first.lane
  pub refused : (i : ℕ) → i < length first.part.items → is_refused (slot_at first.part.items i).outcome ≡ true → 0 < faults_a first.lane

abbrev pub TellPlaces : {L M : Type 0} → (L → Option (List Event)) → (L → ℕ) → (M → Option (List Event)) → SealedJobs → Option (Hand L) → Option (SecondLane M) → Type 0
TellPlaces seen_a faults_a seen_b asked (Some first) (Some second) = ∥ LaneTellsPart seen_a faults_a seen_b asked first second ∥₁
TellPlaces seen_a faults_a seen_b asked (Some first) None = Unit {0}
TellPlaces seen_a faults_a seen_b asked None second = Unit {0}
