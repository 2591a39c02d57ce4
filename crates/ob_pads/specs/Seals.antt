-- Pads, and what a sealer seals between two moments.
use Rattle.std.specs.Prelude.{◌≡◌, ◌⊎◌, ◌≤◌, ◌<◌, ◌+◌, ◌-◌, ℕ, zero, suc, List, [], ◌∷◌, Option, Some, None, Result, Ok, Err}
use Rattle.ob_base.specs.declared.fault.Fault.{Fault}
use Rattle.ob_store.specs.Disk.{Image}
use Rattle.ob_store.specs.declared.event.Event.{Event}
use Rattle.ob_seal.specs.declared.keys.Keys.{Keys}
use Rattle.ob_seal.specs.Sealing.{Sealing}
use Rattle.ob_seal.specs.Seals.{sealed}
use Rattle.ob_twin.specs.Bodies.{open_gate, closed_gate}
use Rattle.ob_twin.specs.Clear.{AreInClear, AreInClearBut}
use Rattle.ob_twin.specs.Keyed.{tagging}
use Rattle.ob_serial.specs.Vaults.{VaultAnswer, Values, Ended, RefusedBy, DoubtBy}
use Rattle.ob_serial.specs.declared.vault.EndErr.{EndErr}
use Rattle.ob_serial.specs.declared.vault.EndErr.TheVariants as end

-- the generation and the number of a seal
abbrev pub Pad : Type 0
Pad = ℕ × ℕ

-- so many pads of a generation, from a number on
abbrev pub pads_from : ℕ → ℕ → ℕ → List Pad
pads_from generation first zero = []
pads_from generation first (suc n) = (generation, first) ∷ pads_from generation (first + 1) n

-- the pads of the seals from one state of a sealer to a later one
abbrev pub pads_between : Option Sealing → Sealing → List Pad
pads_between None now = []
pads_between (Some was) now = pads_from was.generation was.next (now.next - was.next)

-- the sealer has gone on, with its keys and in its generation
pub record SealerGoesOn (was now : Sealing) : Type 0 where
  pub keys : now.keys ≡ was.keys
  pub generation : now.generation ≡ was.generation
  pub on : was.next ≤ now.next

-- the cell's bytes are sealed with this number, which was taken in between
pub record IsSealedWith (was now : Sealing) (cell number : ℕ) (bytes : List ℕ) : Type 0 where
  pub plain : List ℕ
  pub spelled : bytes ≡ sealed was.keys cell was.generation number plain
  pub taken : was.next ≤ number
  pub before : number < now.next

-- the bytes of a gate, open or closed
abbrev pub IsGate : List ℕ → Type 0
IsGate bytes = (bytes ≡ open_gate) ⊎ (bytes ≡ closed_gate)

-- no seal was made for the cell: it is as it was, or a gate
abbrev pub IsUnsealed : Image → Image → ℕ → Type 0
IsUnsealed old new cell = (new cell ≡ old cell) ⊎ IsGate (new cell)

-- Each cell behind the two registers is as it was, or a gate, or is sealed with a number that was taken in between, for this cell
-- alone.
pub record CellsAreSealed (was now : Sealing) (old new : Image) : Type 0 where
  pub number : ℕ → ℕ
  pub each : (cell : ℕ) → 9 ≤ cell → IsUnsealed old new cell ⊎ IsSealedWith was now cell (number cell) (new cell)
  pub alone : (j k : ℕ) → 9 ≤ j → 9 ≤ k → number j ≡ number k → (j ≡ k) ⊎ (IsUnsealed old new j ⊎ IsUnsealed old new k)

-- so they are after a call that wasn't refused, or was left in doubt
abbrev pub SealsBy : VaultAnswer → Sealing → Sealing → Image → Image → Type 0
SealsBy (Values values) was now old new = CellsAreSealed was now old new
SealsBy Ended was now old new = CellsAreSealed was now old new
SealsBy (DoubtBy fault) was now old new = CellsAreSealed was now old new
SealsBy (RefusedBy fault) was now old new = Unit {0}

-- how a fetch is answered, and how an end is
abbrev pub answer_of_fetch : List (Option (List ℕ)) → Result (Unit {0}) Fault → VaultAnswer
answer_of_fetch out (Ok done) = Values out
answer_of_fetch out (Err refused) = RefusedBy refused

abbrev pub answer_of_end : Result (Unit {0}) EndErr → VaultAnswer
answer_of_end (Ok done) = Ended
answer_of_end (Err (end.Before refused)) = RefusedBy refused
answer_of_end (Err (end.Unsure refused)) = DoubtBy refused

-- The first nine cells behind a call: each is as it was, or has what a register writes there; behind one that was refused, or left in
-- doubt, but for one whose write the store refused.
abbrev pub ClearBy : VaultAnswer → Keys → Option (List Event) → Image → Image → Type 0
ClearBy (Values values) keys seen old new = AreInClear (tagging keys) old new
ClearBy Ended keys seen old new = AreInClear (tagging keys) old new
ClearBy (RefusedBy fault) keys seen old new = AreInClearBut (tagging keys) seen old new
ClearBy (DoubtBy fault) keys seen old new = AreInClearBut (tagging keys) seen old new
