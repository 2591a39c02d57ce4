-- What a crash leaves of a vault at any moment of a run.
use Rattle.std.specs.Prelude.{ℕ, suc, ◌≡◌, ◌⊎◌, ◌+◌, List, [], ◌∷◌, ◌++◌, length, Option, None, Some, Result, Err}
use Rattle.ob_base.specs.declared.fault.Fault.TheVariants.{StoreFault}
use Rattle.ob_io.specs.Streams.{Flow}
use Rattle.ob_serial.specs.Serial.{EpochRecord}
use Rattle.ob_serial.specs.Vaults.{VaultState, Standing, MayStand, StandsIn, standing_now}
use Rattle.ob_serial.specs.VaultKinds.{Kind}
use Rattle.ob_store.specs.Disk.{Image}
use Rattle.ob_store.specs.Images.{IsImageOf, LeavesOnly}
use Rattle.ob_serial.specs.declared.vault.EndErr.{EndErr}
use Rattle.ob_desk.specs.Desk.{record_of}
use Rattle.ob_conduct.specs.declared.run_err.RunErr.{RunErr}
use Rattle.ob_conduct.specs.declared.run_err.RunErr.TheVariants as failed
use Rattle.ob_conduct.specs.Acts.{Act, Refuses, records}
use Rattle.ob_conduct.specs.Scenes.{Scene, RunState}
use Rattle.ob_conduct.specs.Records.{contents}
use Rattle.ob_conduct.specs.Moves.{Failure, IsUnended}

-- Each image that a crash may leave of a sound vault, and what reads of its store give, stands for what that allows.
abbrev pub Rests : {V : Type 0} → Kind V → Type 0
Rests {V} k = (w : V) (v : VaultState) (c : Image) → k.sound w v → IsImageOf (k.disk w) c → StandsIn (k.stands w) (MayStand v) c

-- A crash at the very moment leaves what a crash now may leave.
abbrev pub OnlyNow : {V : Type 0} → Kind V → Type 0
OnlyNow {V} k = (w : V) (c : Image) → (k.disk w).left_since (k.disk w).moment c → (k.disk w).may_leave c

-- what stands behind these records' epochs
abbrev pub standing_behind : VaultState → List (EpochRecord ℕ) → Standing
standing_behind v told = record { epoch = v.epoch + length told; content = contents v.content told }

-- It stands behind the epochs of a front of the records.
abbrev pub IsFront : VaultState → List (EpochRecord ℕ) → Standing → Type 0
IsFront v told at = (front : List (EpochRecord ℕ)) × (behind : List (EpochRecord ℕ)) × (told ≡ front ++ behind) × (at ≡ standing_behind v front)

-- It stands behind a front of the records, or behind all of them and the epoch whose end was begun.
abbrev pub IsLeftStanding : VaultState → List (EpochRecord ℕ) → Option (EpochRecord ℕ) → Standing → Type 0
IsLeftStanding v told next at = IsFront v told at ⊎ ((r : EpochRecord ℕ) × (next ≡ Some r) × (at ≡ standing_behind v (told ++ r ∷ [])))

-- The answer tells that the end of this epoch is in doubt.
abbrev pub TellsDoubt : ℕ → Result (Unit {0}) RunErr → Type 0
TellsDoubt epoch result = result ≡ Err (failed.Fault (StoreFault (Some epoch)))

-- It stands behind all of the records; or, only where the end of the next epoch is in doubt, also behind that one.
abbrev pub IsLeftNow : VaultState → List (EpochRecord ℕ) → Option (EpochRecord ℕ) → Type 0 → Standing → Type 0
IsLeftNow v told next doubt at = (at ≡ standing_behind v told) ⊎ ((r : EpochRecord ℕ) × (next ≡ Some r) × doubt × (at ≡ standing_behind v (told ++ r ∷ [])))

-- what stands behind one more epoch
abbrev pub next_at : Standing → EpochRecord ℕ → Standing
next_at at r = record { epoch = suc at.epoch; content = contents at.content (r ∷ []) }

-- It is this, or what stands behind the next epoch, where there is one.
abbrev pub IsThisOrNext : Standing → Option (EpochRecord ℕ) → Standing → Type 0
IsThisOrNext at next found = (found ≡ at) ⊎ ((r : EpochRecord ℕ) × (next ≡ Some r) × (found ≡ next_at at r))

-- Stages of a run, one behind each epoch's end. From one to the next a crash leaves what stands behind the epochs so far, or behind one
-- more; from the last one on, that or what stands behind the epoch whose end was begun.
abbrev pub Stages : {V : Type 0} → Kind V → (Image → Standing → Type 0) → Standing → List (EpochRecord ℕ) → Option (EpochRecord ℕ) → V → V → Type 0
Stages k stands at [] next from last = LeavesOnly (k.disk from) (k.disk last) (StandsIn stands (IsThisOrNext at next))
Stages {V} k stands at (r ∷ told) next from last =
    (mid : V) × LeavesOnly (k.disk from) (k.disk mid) (StandsIn stands (IsThisOrNext at (Some r))) × Stages k stands (next_at at r) told next mid last

-- The record of an epoch whose end these acts tell to be refused, or left in doubt.
abbrev pub IsUnendedRecord : {V : Type 0} → {k : Kind V} → {old new : Scene V} → {acts : List Act} → {before after : Flow} → {err : RunErr} → Failure k old new acts before after err → EpochRecord ℕ → Type 0
IsUnendedRecord {k = k} {old = old} f r = (writes : List (ℕ × Option (List ℕ))) × (refused : EndErr) × (f.act ≡ Refuses writes refused) × (u : IsUnended k old f.front writes refused) × (record_of u.closed ≡ r)

module _ {V U : Type 0} (k : Kind V) (old new : RunState V U) (acts : List Act) (result : Result (Unit {0}) RunErr) where
  -- None: no epoch's end was begun behind those of the records. Some: the end of this record's epoch was, and was refused or left in
  -- doubt with the fault that is answered.
  abbrev pub IsNextOf : Option (EpochRecord ℕ) → Type 0
  IsNextOf None = Unit {0}
  IsNextOf (Some r) = (err : RunErr) × (result ≡ Err err) × (failure : Failure k old.scene new.scene acts old.output new.output err) × IsUnendedRecord failure r

  -- What a crash leaves of a vault that held v when the run began.
  pub record LeftByRun (v : VaultState) : Type 0 where
    pub next : Option (EpochRecord ℕ)
    pub is_next : IsNextOf next
    -- at any moment of the run, from its first one on,
    pub since : LeavesOnly (k.disk old.scene.vault) (k.disk new.scene.vault) (StandsIn (k.stands old.scene.vault) (IsLeftStanding v (records acts) next))
    -- from each epoch's end on, that epoch and those before it,
    pub stages : Stages k (k.stands old.scene.vault) (standing_now v) (records acts) next old.scene.vault new.scene.vault
    -- and at its return, where what reads give stands so as well
    pub now : (c : Image) → IsImageOf (k.disk new.scene.vault) c → StandsIn (k.stands old.scene.vault) (IsLeftNow v (records acts) next (TellsDoubt (old.scene.desk.running.epoch + length (records acts)) result)) c
