-- What a crash may leave, in words that compose from call to call.
use Rattle.std.specs.Prelude.{◌≡◌, ◌≢◌, ◌⊎◌, ◌<◌, ◌≤◌, ℕ, ◌+◌}
use Rattle.ob_store.specs.Disk.{Disk, Image, Clock, NotAfter}

-- a crash leaves what a read returns, and nothing else: no write waits for a sync
abbrev pub IsSynced : Disk → Type 0
IsSynced disk = (c : Image) → disk.may_leave c → (k : ℕ) → c k ≡ disk.cells k

-- the two images are the same
abbrev pub Same : Image → Image → Type 0
Same a b = a ≡ b

-- the two images differ in this cell alone
abbrev pub SameBut : ℕ → Image → Image → Type 0
SameBut cell a b = (k : ℕ) → k ≢ cell → a k ≡ b k

-- the two images differ in cells of that range alone
abbrev pub SameOff : ℕ → ℕ → Image → Image → Type 0
SameOff base n a b = (k : ℕ) → (k < base) ⊎ (base + n ≤ k) → a k ≡ b k

-- a crash may leave anything in the cell, and else what it might have left before
abbrev pub Tears : ℕ → Disk → Disk → Type 0
Tears cell old new = (c : Image) → new.may_leave c → (d : Image) × old.may_leave d × SameBut cell c d

-- a crash may leave nothing that it might not have left before
abbrev pub Shrinks : Disk → Disk → Type 0
Shrinks old new = (c : Image) → new.may_leave c → old.may_leave c

-- a crash may leave the image, or reads give it
abbrev pub IsImageOf : Disk → Image → Type 0
IsImageOf disk c = disk.may_leave c ⊎ (disk.tells × Same c disk.cells)

-- A call is one moment: a crash since t might have left what it might have left before the call, or what it may leave after it.
abbrev pub Elapses : Disk → Disk → Type 0
Elapses old new = (t : Clock) (c : Image) → NotAfter t old.moment → new.left_since t c → old.left_since t c ⊎ new.may_leave c

-- A crash at any moment from old to new leaves an image that has P, and what reads give at the end has P, where the store tells it.
pub record LeavesOnly (old new : Disk) (P : Image → Type 0) : Type 0 where
  pub later : NotAfter old.moment new.moment
  pub each : (c : Image) → new.left_since old.moment c → P c
  -- for a run that began earlier
  pub before : (t : Clock) (c : Image) → NotAfter t old.moment → new.left_since t c → old.left_since t c ⊎ P c
  pub told : new.tells → P new.cells

-- An image that a crash may leave after these calls, or might have left between them, comes by this step from one that it might
-- have left before them. So does what reads give come from what they gave.
pub record Passes (step : Image → Image → Type 0) (old new : Disk) : Type 0 where
  pub later : NotAfter old.moment new.moment
  pub now : (c : Image) → new.may_leave c → (d : Image) × old.may_leave d × step c d
  pub since : (t : Clock) (c : Image) → NotAfter t old.moment → new.left_since t c → old.left_since t c ⊎ ((d : Image) × old.may_leave d × step c d)
  pub told : new.tells → old.tells × step new.cells old.cells
