-- Chains of calls on a vault, told by its own words and by those of every vault.
use Rattle.std.specs.Prelude.{ℕ, ◌≡◌, List, [], ◌∷◌, ◌++◌, Option}
use Rattle.ob_store.specs.declared.watch.Note.{Note}
use Rattle.ob_store.specs.Disk.{Image, Disk}
use Rattle.ob_store.specs.Images.{LeavesOnly}
use Rattle.ob_store.specs.Calls.{GoesOn}
use Rattle.ob_serial.specs.declared.vault.Vault as vault
use Rattle.ob_serial.specs.Vaults.{VaultCall, End, VaultAnswer, Ended, VaultState, Standing, IsAnswer, vault_next, MayStandIn, StandsIn, StandAlike}

-- the words of a kind of vault
pub record Kind (V : Type 0) : Type 1 where
  pub holds : V → VaultState → Type 0
  pub sound : V → VaultState → Type 0
  pub stands : V → Image → Standing → Type 0
  pub disk : V → Disk
  pub called : V → VaultCall → VaultAnswer → List Note → V → Type 0

-- those of a vault
abbrev pub kind_of : {V : Type 0} → vault.Ghosts V → Kind V
kind_of words = record { holds = words.holds; sound = words.sound; stands = words.stands; disk = words.disk; called = words.called }

-- One call: what it did in the vault's own words, and what every vault says of it.
pub record Called {V : Type 0} (k : Kind V) (old : V) (call : VaultCall) (answer : VaultAnswer) (new : V) : Type 0 where
  pub notes : List Note
  pub called : k.called old call answer notes new
  pub answered : (v : VaultState) → k.holds old v → IsAnswer v.content call answer
  pub holds : (v : VaultState) → k.holds old v → k.holds new (vault_next v call answer)
  pub sound : (v : VaultState) → k.sound old v → k.sound new (vault_next v call answer)
  pub images : (v : VaultState) → k.sound old v → LeavesOnly (k.disk old) (k.disk new) (StandsIn (k.stands old) (MayStandIn v call))
  pub alike : StandAlike (k.stands old) (k.stands new)
  pub goes : GoesOn (k.disk old) (k.disk new)

-- Calls with their answers lead from a vault to a vault.
abbrev pub AllCalled : {V : Type 0} → Kind V → V → List (VaultCall × VaultAnswer) → V → Type 0
AllCalled k old [] new = new ≡ old
AllCalled {V} k old (step ∷ steps) new = (mid : V) × Called k old step.0 step.1 mid × AllCalled k mid steps new

-- what the vault holds behind them
abbrev pub after_calls : VaultState → List (VaultCall × VaultAnswer) → VaultState
after_calls v [] = v
after_calls v (step ∷ steps) = after_calls (vault_next v step.0 step.1) steps

-- the writes of an epoch that this call ended
abbrev pub ended_by : VaultCall × VaultAnswer → List (List (ℕ × Option (List ℕ)))
ended_by (End writes, Ended) = writes ∷ []
ended_by _ = []

-- the writes of the epochs that ended, in order
abbrev pub ended_of : List (VaultCall × VaultAnswer) → List (List (ℕ × Option (List ℕ)))
ended_of [] = []
ended_of (step ∷ steps) = ended_by step ++ ended_of steps
