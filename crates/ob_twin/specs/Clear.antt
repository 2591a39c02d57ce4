-- What stands in the clear in the cells of the registers, byte by byte.
use Rattle.std.specs.Prelude.{◌≡◌, ◌⊎◌, ◌<◌, ◌≤◌, ◌%◌, ◌^◌, ◌++◌, ℕ, Bool, IsTrue, if◌then◌else◌, List, [], ◌∷◌, Option, Some, None, Result, Ok, Err}
use Rattle.ob_store.specs.Disk.{Image}
use Rattle.ob_store.specs.Images.{SameBut}
use Rattle.ob_store.specs.declared.event.Event.{Event}
use Rattle.ob_store.specs.declared.event.Event.TheVariants.{Write}
use Rattle.ob_twin.specs.declared.set_err.SetErr.{SetErr}
use Rattle.ob_twin.specs.declared.set_err.SetErr.TheVariants.{Before, Unsure}
use Rattle.ob_twin.specs.Bodies.{Tagging, open_gate, closed_gate, body_of}
use Rattle.ob_twin.specs.Register.{body_at, gate_at, place_of, SameTwo}

-- The last call that the store tells wrote this cell. So where a call over the store was refused, the store refused that write, and what
-- the cell then holds is the store's own doing.
abbrev pub IsLastWrite : ℕ → Option (List Event) → Type 0
IsLastWrite cell None = Unit {0}
IsLastWrite cell (Some events) = (before : List Event) × (events ≡ before ++ Write cell ∷ [])

-- the cell has these bytes, unless its write was refused
abbrev pub IsWritten : ℕ → List ℕ → Option (List Event) → Image → Type 0
IsWritten cell bytes seen image = (image cell ≡ bytes) ⊎ IsLastWrite cell seen

-- ---- a set that was refused

-- While the gate was closed: no other cell is new.
pub record IsClosing (closes : Bool) (gate : ℕ) (seen : Option (List Event)) (from image : Image) : Type 0 where
  pub closes_first : IsTrue closes
  pub gate_is : IsWritten gate closed_gate seen image
  pub rest : SameBut gate image from

-- While the body was written, behind the gate as it was closed, or as it was: no other cell is new.
pub record IsLaying (tag : Tagging) (closes : Bool) (first n : ℕ) (seen : Option (List Event)) (from image : Image) : Type 0 where
  pub body_is : IsWritten (body_at first (place_of n)) (body_of tag (body_at first (place_of n)) n) seen image
  pub gate_is : image (gate_at first (place_of n)) ≡ (if closes then closed_gate else from (gate_at first (place_of n)))
  pub rest : SameTwo (body_at first (place_of n)) (gate_at first (place_of n)) image from

-- While the gate was opened, over the body: no other cell is new.
pub record IsOpening (tag : Tagging) (first n : ℕ) (seen : Option (List Event)) (from image : Image) : Type 0 where
  pub body_is : image (body_at first (place_of n)) ≡ body_of tag (body_at first (place_of n)) n
  pub gate_is : IsWritten (gate_at first (place_of n)) open_gate seen image
  pub rest : SameTwo (body_at first (place_of n)) (gate_at first (place_of n)) image from

-- what the cells have behind a set that was refused
abbrev pub SetLeft : Tagging → Bool → ℕ → ℕ → Option (List Event) → Image → Image → SetErr → Type 0
SetLeft tag closes first n seen from image (Before fault) = IsClosing closes (gate_at first (place_of n)) seen from image ⊎ IsLaying tag closes first n seen from image
SetLeft tag closes first n seen from image (Unsure fault) = IsOpening tag first n seen from image

-- ---- the cells of both registers

-- the body of a number, each byte of it
pub record IsNumberBody (tag : Tagging) (cell : ℕ) (bytes : List ℕ) : Type 0 where
  pub number : ℕ
  pub small : number < 2 ^ 62
  pub spelled : bytes ≡ body_of tag cell number

-- What a register writes to a cell: in those of odd number bodies, in those of even number gates.
abbrev pub IsRegisterCell : Tagging → ℕ → List ℕ → Type 0
IsRegisterCell tag cell bytes = (1 ≤ cell) × (((cell % 2 ≡ 1) × IsNumberBody tag cell bytes) ⊎ ((cell % 2 ≡ 0) × ((bytes ≡ open_gate) ⊎ (bytes ≡ closed_gate))))

-- the cell is as it was, or has what a register writes there
abbrev pub IsInClear : Tagging → Image → Image → ℕ → Type 0
IsInClear tag old new cell = (new cell ≡ old cell) ⊎ IsRegisterCell tag cell (new cell)

-- So is each cell of the head and of the registers; behind a call that was refused, but for one whose write the store refused.
abbrev pub AreInClear : Tagging → Image → Image → Type 0
AreInClear tag old new = (cell : ℕ) → cell ≤ 8 → IsInClear tag old new cell

abbrev pub AreInClearBut : Tagging → Option (List Event) → Image → Image → Type 0
AreInClearBut tag seen old new = (cell : ℕ) → cell ≤ 8 → IsInClear tag old new cell ⊎ IsLastWrite cell seen

-- by the answer
abbrev pub InClearBy : {T E : Type 0} → Tagging → Option (List Event) → Image → Image → Result T E → Type 0
InClearBy tag seen old new (Ok done) = AreInClear tag old new
InClearBy tag seen old new (Err refused) = AreInClearBut tag seen old new
