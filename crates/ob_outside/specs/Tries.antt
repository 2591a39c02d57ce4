-- Private: jobs that a file's lanes tried to read.
use Rattle.std.specs.Prelude.{ℕ, Option, None}
use Rattle.ob_store.specs.Disk.{silent}
use Rattle.ob_claims.specs.declared.claims.Claims.{Claims}
use Rattle.ob_claims.specs.declared.claims.Round.{Round}
use Rattle.ob_lanes.specs.declared.hand.Hand.{Hand}
use Rattle.ob_lanes.specs.declared.hand.SealedJobs.{SealedJobs}
use Rattle.ob_lanes.specs.Hands.{IsHandRead, IsPlaceRead}
use Rattle.ob_outside.specs.declared.store.FileLane.{FileLane}

-- A hand of a store that has failed so often has tried the jobs that it claimed: of what a file holds nothing is told.
abbrev pub IsHandTried : ℕ → Claims → Round → SealedJobs → Hand FileLane → Hand FileLane → Type 0
IsHandTried faults claims round asked old new = IsHandRead (silent faults) (λ (lane : FileLane). None) (λ (lane : FileLane). lane.faults) claims round asked old new

-- a hand is where one was, and has tried its jobs
abbrev pub IsPlaceTried : ℕ → Claims → Round → SealedJobs → Option (Hand FileLane) → Option (Hand FileLane) → Type 0
IsPlaceTried faults claims round asked old new = IsPlaceRead (silent faults) (λ (lane : FileLane). None) (λ (lane : FileLane). lane.faults) claims round asked old new
