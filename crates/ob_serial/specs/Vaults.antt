-- The vault law: what the calls of a vault answer, how they change what it holds, and what the images of its store may stand for.
use Rattle.std.specs.Prelude.{ℕ, suc, ◌≡◌, ◌⊎◌, ◌-◌, ◌<◌, ◌↔◌, Bool, true, false, List, [], ◌∷◌, map, length, slice_get, Option, None, Some}
use Rattle.std.specs.Ordering.{nat_cmp}
use Rattle.std.specs.FinMap as finite
use Rattle.ob_base.specs.declared.fault.Fault.{Fault}
use Rattle.ob_base.specs.Writes.{write_op}
use Rattle.ob_store.specs.Disk.{Image}
use Rattle.ob_serial.specs.Serial.{Map, after_ops}

-- a fetch of the values of keys, None for a pad; and the end of an epoch with its writes, None for a delete
pub data VaultCall : Type 0 where
  Fetch : (keys : List (Option ℕ)) → VaultCall
  End : (writes : List (ℕ × Option (List ℕ))) → VaultCall

-- An end that was refused before its last write is refused; one that was refused there or at the sync after it is in doubt.
pub data VaultAnswer : Type 0 where
  Values : (values : List (Option (List ℕ))) → VaultAnswer
  Ended : VaultAnswer
  RefusedBy : (fault : Fault) → VaultAnswer
  DoubtBy : (fault : Fault) → VaultAnswer

-- an epoch, and the map of committed values after it
pub record Standing : Type 0 where
  pub epoch : ℕ
  pub content : Map nat_cmp

-- what every vault tells of itself
pub record VaultCounts : Type 0 where
  -- the last epoch that ended
  pub epoch : ℕ
  -- the batches of the running epoch that were not fetched yet
  pub left : ℕ
  -- it serves no more
  pub spent : Bool

-- What a vault holds.
pub record VaultState : Type 0 where
  -- batches of an epoch
  pub batches : ℕ
  -- the last epoch that ended, and the map after it
  pub epoch : ℕ
  pub content : Map nat_cmp
  pub left : ℕ
  pub spent : Bool
  -- what an end in doubt may have left
  pub doubt : Option Standing

abbrev pub counts_of : VaultState → VaultCounts
counts_of v = record { epoch = v.epoch; left = v.left; spent = v.spent }

-- the map with these writes
abbrev pub with_writes : Map nat_cmp → List (ℕ × Option (List ℕ)) → Map nat_cmp
with_writes m writes = after_ops nat_cmp m (map (λ w. write_op w.0 w.1) writes)

-- the writes that put each entry of a map, in rising order of keys
abbrev pub entry_writes : Map nat_cmp → List (ℕ × Option (List ℕ))
entry_writes m = map (λ e. (e.0, Some e.1)) (finite.entries m)

abbrev pub standing_now : VaultState → Standing
standing_now v = record { epoch = v.epoch; content = v.content }

abbrev pub standing_next : VaultState → List (ℕ × Option (List ℕ)) → Standing
standing_next v writes = record { epoch = suc v.epoch; content = with_writes v.content writes }

-- each asked key has the map's value, a pad has none
pub record AnswersAll (m : Map nat_cmp) (keys : List (Option ℕ)) (values : List (Option (List ℕ))) : Type 0 where
  pub whole : length values ≡ length keys
  pub asked : (i key : ℕ) → slice_get keys i ≡ Some (Some key) → slice_get values i ≡ Some (finite.get m key)
  pub pads : (i : ℕ) → slice_get keys i ≡ Some None → slice_get values i ≡ Some None

-- the vault after a call
abbrev pub vault_next : VaultState → VaultCall → VaultAnswer → VaultState
vault_next v (Fetch keys) (Values values) = record v { left = v.left - 1 }
vault_next v (End writes) Ended = record v { epoch = suc v.epoch; content = with_writes v.content writes; left = v.batches }
vault_next v (End writes) (DoubtBy fault) = record v { spent = true; doubt = Some (standing_next v writes) }
vault_next v _ _ = record v { spent = true }

-- and what it tells of itself
abbrev pub counts_next : ℕ → VaultCounts → VaultCall → VaultAnswer → VaultCounts
counts_next batches v (Fetch keys) (Values values) = record v { left = v.left - 1 }
counts_next batches v (End writes) Ended = record v { epoch = suc v.epoch; left = batches }
counts_next batches v _ _ = record v { spent = true }

-- what a call may answer, by the map
abbrev pub IsAnswer : Map nat_cmp → VaultCall → VaultAnswer → Type 0
IsAnswer m (Fetch keys) (Values values) = AnswersAll m keys values
IsAnswer m (Fetch keys) (RefusedBy fault) = Unit {0}
IsAnswer m (End writes) Ended = Unit {0}
IsAnswer m (End writes) (RefusedBy fault) = Unit {0}
IsAnswer m (End writes) (DoubtBy fault) = Unit {0}
IsAnswer m _ _ = ⊥

-- The calls of a map by epochs: each answer is the map's, and each call leaves what it has to.
pub record VaultStep (v : VaultState) (call : VaultCall) (answer : VaultAnswer) (new : VaultState) : Type 0 where
  pub serves : v.spent ≡ false
  pub answered : IsAnswer v.content call answer
  pub state : new ≡ vault_next v call answer

abbrev pub VaultRun : VaultState → List (VaultCall × VaultAnswer) → VaultState → Type 0
VaultRun v [] new = new ≡ v
VaultRun v (step ∷ steps) new = (mid : VaultState) × VaultStep v step.0 step.1 mid × VaultRun mid steps new

-- Between calls an image stands for what the vault holds, or for what an end in doubt may have left,
abbrev pub MayStand : VaultState → Standing → Type 0
MayStand v at = (at ≡ standing_now v) ⊎ (v.doubt ≡ Some at)

-- and inside an end also for what that makes durable.
abbrev pub MayStandIn : VaultState → VaultCall → Standing → Type 0
MayStandIn v (Fetch keys) at = MayStand v at
MayStandIn v (End writes) at = MayStand v at ⊎ (at ≡ standing_next v writes)

-- the image stands for a standing that is allowed
abbrev pub StandsIn : (Image → Standing → Type 0) → (Standing → Type 0) → Image → Type 0
StandsIn stands allowed image = (at : Standing) × stands image at × allowed at

-- the same images stand for the same
abbrev pub StandAlike : (Image → Standing → Type 0) → (Image → Standing → Type 0) → Type 0
StandAlike old new = (image : Image) (at : Standing) → old image at ↔ new image at

-- the keys that are asked for, pads left out
abbrev pub AreBelow : ℕ → List (Option ℕ) → Type 0
AreBelow keys asks = (i key : ℕ) → slice_get asks i ≡ Some (Some key) → key < keys

abbrev pub AreDistinct : List (Option ℕ) → Type 0
AreDistinct asks = (i j key : ℕ) → slice_get asks i ≡ Some (Some key) → slice_get asks j ≡ Some (Some key) → i ≡ j
