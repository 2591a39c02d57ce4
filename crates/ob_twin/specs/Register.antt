-- Where the places of a register lie, and at which number an image of the store stands.
use Rattle.std.specs.Prelude.{◌≡◌, ◌≢◌, ◌⊎◌, ◌<◌, ◌≤◌, ℕ, ◌+◌, ◌*◌, ◌%◌, ◌^◌, Bool, true, false}
use Rattle.ob_store.specs.Disk.{Image}
use Rattle.ob_store.specs.Images.{SameBut}
use Rattle.ob_twin.specs.declared.twin.Twin.{Twin}
use Rattle.ob_twin.specs.declared.twin.Twin.TheVariants.{GENERATION, EPOCH}
use Rattle.ob_twin.specs.Bodies.{Tagging, IsStamped, open_gate, number_of, body_of}

-- the first of a register's four cells
abbrev pub first_of : Twin → ℕ
first_of GENERATION = 1
first_of EPOCH = 5

-- the body of a place, and its gate
abbrev pub body_at : ℕ → ℕ → ℕ
body_at first place = first + 2 * place

abbrev pub gate_at : ℕ → ℕ → ℕ
gate_at first place = first + 2 * place + 1

-- a number stands in the place of its parity
abbrev pub place_of : ℕ → ℕ
place_of n = n % 2

abbrev pub IsOpen : ℕ → Image → ℕ → Type 0
IsOpen first image place = image (gate_at first place) ≡ open_gate

abbrev pub number_at : ℕ → Image → ℕ → ℕ
number_at first image place = number_of (image (body_at first place))

-- a body under an open gate is stamped, and its number is at most n and in its place
abbrev pub IsUnder : Tagging → ℕ → Image → ℕ → ℕ → Type 0
IsUnder tag first image place n =
    IsOpen first image place
    → IsStamped tag (body_at first place) (image (body_at first place)) × (number_at first image place ≤ n) × (place_of (number_at first image place) ≡ place)

-- The register stands at n. A number under the other gate, if that is open, is no greater.
pub record StandsAt (tag : Tagging) (first : ℕ) (image : Image) (n : ℕ) : Type 0 where
  pub small : n < 2 ^ 62
  pub open_at : IsOpen first image (place_of n)
  pub stamped : IsStamped tag (body_at first (place_of n)) (image (body_at first (place_of n)))
  pub number : number_at first image (place_of n) ≡ n
  pub other : IsUnder tag first image (place_of (n + 1)) n

-- no cell but the register's four differs
abbrev pub SameOutside : ℕ → Image → Image → Type 0
SameOutside first a b = (k : ℕ) → (k < first) ⊎ (first + 4 ≤ k) → a k ≡ b k

-- the two images differ in these two cells alone
abbrev pub SameTwo : ℕ → ℕ → Image → Image → Type 0
SameTwo body gate a b = (k : ℕ) → k ≢ body → k ≢ gate → a k ≡ b k

-- what a write of a cell that is made or not may leave
abbrev pub IsTornOnly : Bool → ℕ → Image → Image → Type 0
IsTornOnly true cell c from = SameBut cell c from
IsTornOnly false cell c from = (k : ℕ) → c k ≡ from k

-- the image stands at this number, and has the rest of that image
pub record KeepsAt (tag : Tagging) (first : ℕ) (from : Image) (n : ℕ) (image : Image) : Type 0 where
  pub stands : StandsAt tag first image n
  pub rest : SameOutside first image from

-- the old number or the new one
abbrev pub OldOrNew : Tagging → ℕ → Image → ℕ → ℕ → Image → Type 0
OldOrNew tag first from old new image = KeepsAt tag first from old image ⊎ KeepsAt tag first from new image

-- the new number's body stands behind a closed gate, and each other cell is as before
pub record IsPrepared (tag : Tagging) (first : ℕ) (from : Image) (n : ℕ) (image : Image) : Type 0 where
  pub body : image (body_at first (place_of n)) ≡ body_of tag (body_at first (place_of n)) n
  pub shut : image (gate_at first (place_of n)) ≢ open_gate
  pub rest : SameTwo (body_at first (place_of n)) (gate_at first (place_of n)) image from

-- the number's body stands under an open gate, and each other cell is as before
pub record IsPut (tag : Tagging) (first : ℕ) (from : Image) (n : ℕ) (image : Image) : Type 0 where
  pub body : image (body_at first (place_of n)) ≡ body_of tag (body_at first (place_of n)) n
  pub opened : IsOpen first image (place_of n)
  pub rest : SameTwo (body_at first (place_of n)) (gate_at first (place_of n)) image from
