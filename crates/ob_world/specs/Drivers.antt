-- Where the driver of epochs is between a batch that it takes and its delivery, and between a close and its report.
use Rattle.std.specs.Prelude.{ℕ, ◌≡◌, ◌⊎◌, true, List, Option, Some, None}
use Rattle.ob_serial.specs.Serial.{EpochRecord}
use Rattle.ob_serial.specs.Vaults.{VaultCall, Fetch, End, VaultAnswer, Values, Ended, RefusedBy, DoubtBy}
use Rattle.ob_desk.specs.Desk as desk
use Rattle.ob_desk.specs.Desk.{Call, Reply, Fault, is_memory}
use Rattle.ob_session.specs.Steps.{IsOwn}

pub data DriverAt : Type 0 where
  -- it rests
  AtRest : DriverAt
  -- it took these keys,
  HasTaken : (keys : List (Option ℕ)) → DriverAt
  -- and fetched these values
  HasFetched : (keys : List (Option ℕ)) (values : List (Option (List ℕ))) → DriverAt
  -- it closed an epoch with these writes,
  HasClosed : (writes : List (ℕ × Option (List ℕ))) → DriverAt
  -- which is durable, or in doubt
  HasEnded : DriverAt
  HasDoubt : (fault : Fault) → DriverAt
  -- it published this record
  HasTold : (told : EpochRecord ℕ) → DriverAt
  -- it failed
  HasFailed : (fault : Fault) → DriverAt
  -- a crash stopped all
  IsDown : DriverAt

-- no crash stopped it
abbrev pub IsUp : DriverAt → Type 0
IsUp IsDown = ⊥
IsUp _ = Unit {0}

pub record TakesBatch (at : DriverAt) (reply : Reply) (next : DriverAt) : Type 0 where
  pub keys : List (Option ℕ)
  pub was : at ≡ AtRest
  pub told : reply ≡ desk.Batch keys
  pub now : next ≡ HasTaken keys

-- what is delivered is what was fetched
pub record DeliversFetched (at : DriverAt) (keys : List (Option ℕ)) (values : List (Option (List ℕ))) (next : DriverAt) : Type 0 where
  pub was : at ≡ HasFetched keys values
  pub now : next ≡ AtRest

pub record ClosesEpoch (at : DriverAt) (reply : Reply) (next : DriverAt) : Type 0 where
  pub writes : List (ℕ × Option (List ℕ))
  pub was : at ≡ AtRest
  pub told : reply ≡ desk.Writes writes
  pub now : next ≡ HasClosed writes

-- a publish follows an end that was answered
pub record PublishesEnded (at : DriverAt) (reply : Reply) (next : DriverAt) : Type 0 where
  pub published : EpochRecord ℕ
  pub was : at ≡ HasEnded
  pub told : reply ≡ desk.Published published
  pub now : next ≡ HasTold published

-- and this one that was left in doubt
pub record TellsOfDoubt (at : DriverAt) (fault : Fault) (next : DriverAt) : Type 0 where
  pub was : at ≡ HasDoubt fault
  pub now : next ≡ HasFailed fault

-- no epoch is closed that hasn't been published
abbrev pub NoneIsDue : DriverAt → Type 0
NoneIsDue (HasClosed writes) = ⊥
NoneIsDue HasEnded = ⊥
NoneIsDue (HasDoubt fault) = ⊥
NoneIsDue _ = Unit {0}

-- Want of memory may stop the desk anywhere, another fault not while an epoch is due.
pub record StopsHere (at : DriverAt) (fault : Fault) (next : DriverAt) : Type 0 where
  pub may : (is_memory fault ≡ true) ⊎ NoneIsDue at
  pub now : next ≡ at

-- A call of the desk, where the driver is. A client's call leaves it where it is.
abbrev pub MovesDriver : DriverAt → Call → Reply → DriverAt → Type 0
MovesDriver at desk.TakeBatch reply next = TakesBatch at reply next
MovesDriver at (desk.Deliver keys values) reply next = DeliversFetched at keys values next
MovesDriver at desk.Close reply next = ClosesEpoch at reply next
MovesDriver at (desk.Publish epoch left) reply next = PublishesEnded at reply next
MovesDriver at (desk.Unsure fault) reply next = TellsOfDoubt at fault next
MovesDriver at (desk.Stop fault) reply next = StopsHere at fault next
MovesDriver at _ reply next = next ≡ at

-- Where a call of the vault is made: a fetch asks for the batch that was taken, an end has the close's writes;
abbrev pub before_call : VaultCall → DriverAt
before_call (Fetch keys) = HasTaken keys
before_call (End writes) = HasClosed writes

-- and where its answer leaves the driver.
abbrev pub behind_call : VaultCall → VaultAnswer → DriverAt
behind_call (Fetch keys) (Values values) = HasFetched keys values
behind_call (End writes) Ended = HasEnded
behind_call call (RefusedBy fault) = HasFailed fault
behind_call call (DoubtBy fault) = HasDoubt fault
behind_call _ _ = IsDown

-- it is inside this call, or in none
abbrev pub IsInsideCall : DriverAt → Option VaultCall → Type 0
IsInsideCall at None = Unit {0}
IsInsideCall at (Some call) = at ≡ before_call call

-- one of the driver's calls of the desk
abbrev pub IsDriverCall : Call → Type 0
IsDriverCall desk.IsStopped = Unit {0}
IsDriverCall desk.Looks = Unit {0}
IsDriverCall desk.TakeBatch = Unit {0}
IsDriverCall (desk.Deliver keys values) = Unit {0}
IsDriverCall desk.Close = Unit {0}
IsDriverCall (desk.Publish epoch left) = Unit {0}
IsDriverCall (desk.Unsure fault) = Unit {0}
IsDriverCall (desk.Stop fault) = Unit {0}
IsDriverCall _ = ⊥

-- Whose call it is: 0 is the driver, and clients, who count from 1, make their own calls.
abbrev pub IsCallOf : ℕ → Call → Reply → Type 0
IsCallOf caller call reply = ((caller ≡ 0) × IsDriverCall call) ⊎ IsOwn caller (call, reply)
