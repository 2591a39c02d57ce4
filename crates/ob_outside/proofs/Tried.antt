-- What a file's hands have tried, however often their store has failed.
use Rattle.std.proofs.Common.{ℕ, Option, Some, None}
use Rattle.std.proofs.lemmas.List.Elements.{All-weaker}
use Rattle.ob_store.specs.Disk.{silent}
use Rattle.ob_claims.specs.declared.claims.Claims.{Claims}
use Rattle.ob_claims.specs.declared.claims.Round.{Round}
use Rattle.ob_lanes.specs.declared.hand.Hand.{Hand}
use Rattle.ob_lanes.specs.declared.hand.SealedJobs.{SealedJobs}
use Rattle.ob_lanes.specs.declared.hand.Slot.{Slot}
use Rattle.ob_lanes.specs.Hands.{IsReadAt}
use Rattle.ob_outside.specs.declared.store.FileLane.{FileLane}
use Rattle.ob_outside.specs.Tries.{IsHandTried, IsPlaceTried}

-- nothing is told of a slot's bytes
slot_on : (a b before now : ℕ) (asked : SealedJobs) (slot : Slot) → IsReadAt asked (silent a) before now slot → IsReadAt asked (silent b) before now slot
slot_on a b before now asked slot is = record { within = is.within; read = record { value = λ tells. absurd tells; faults = is.read.faults; cause = is.read.cause } }

hand_on : (a b : ℕ) (claims : Claims) (round : Round) (asked : SealedJobs) (old new : Hand FileLane) → IsHandTried a claims round asked old new → IsHandTried b claims round asked old new
hand_on a b claims round asked old new tried =
    let before : ℕ = (old.lane).faults in
    let now : ℕ = (new.lane).faults in record {
      seat = tried.seat;
      parts = tried.parts;
      read = All-weaker (IsReadAt asked (silent a) before now) (IsReadAt asked (silent b) before now) (slot_on a b before now asked) new.part.items tried.read;
      seen = tried.seen;
      later = tried.later;
      room = tried.room;
    }

pub place_on : (a b : ℕ) (claims : Claims) (round : Round) (asked : SealedJobs) (old new : Option (Hand FileLane)) → IsPlaceTried a claims round asked old new → IsPlaceTried b claims round asked old new
place_on a b claims round asked (Some old) (Some new) tried = (hand_on a b claims round asked old new tried.0, tried.1)
place_on a b claims round asked (Some old) None tried = tried
place_on a b claims round asked None (Some new) tried = tried
place_on a b claims round asked None None tried = tried
