-- What stands in the clear in the head and the registers while a store is made.
use Rattle.std.specs.Prelude.{◌≡◌, ◌⊎◌, ◌≤◌, ℕ, List, Option, Result, Ok, Err}
use Rattle.ob_store.specs.Disk.{Image}
use Rattle.ob_store.specs.declared.event.Event.{Event}
use Rattle.ob_twin.specs.Bodies.{Tagging, closed_gate}
use Rattle.ob_twin.specs.Clear.{IsInClear, IsLastWrite}

-- each cell is as it was, or has the bytes of a closed gate; refused, but for one whose write the store refused
abbrev pub IsKeptOrShut : Image → Image → ℕ → Type 0
IsKeptOrShut old new cell = (new cell ≡ old cell) ⊎ (new cell ≡ closed_gate)

abbrev pub ShutBy : {T E : Type 0} → Option (List Event) → Image → Image → Result T E → Type 0
ShutBy seen old new (Ok done) = (cell : ℕ) → IsKeptOrShut old new cell
ShutBy seen old new (Err refused) = (cell : ℕ) → IsKeptOrShut old new cell ⊎ IsLastWrite cell seen

-- The cell is in the clear, or it is the head's, and has such bytes.
abbrev pub IsLaidInClear : (List ℕ → Type 0) → Tagging → Image → Image → ℕ → Type 0
IsLaidInClear Head tag old new cell = IsInClear tag old new cell ⊎ ((cell ≡ 0) × Head (new 0))

-- so is each cell of the head and of the registers; refused, but for one whose write the store refused
abbrev pub LaidInClearBy : {T E : Type 0} → (List ℕ → Type 0) → Tagging → Option (List Event) → Image → Image → Result T E → Type 0
LaidInClearBy Head tag seen old new (Ok done) = (cell : ℕ) → cell ≤ 8 → IsLaidInClear Head tag old new cell
LaidInClearBy Head tag seen old new (Err refused) = (cell : ℕ) → cell ≤ 8 → IsLaidInClear Head tag old new cell ⊎ IsLastWrite cell seen
