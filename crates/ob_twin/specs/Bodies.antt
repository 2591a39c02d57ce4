-- Stamped cells, and the bodies and gates of a register.
use Rattle.std.specs.Prelude.{◌≡◌, ◌<◌, ◌≤◌, ℕ, ◌^◌, List, ◌++◌, take, drop, replicate}
use Rattle.std.specs.Int.{w64, to_le_bytes, from_le_bytes}
use Rattle.ob_base.specs.declared.fault.Damaged.{Damaged}
use Rattle.ob_base.specs.declared.fault.Check.TheVariants.{Tag, Form}

-- the 16 bytes of tag of a cell and 112 plain bytes
abbrev pub Tagging : Type 0
Tagging = ℕ → List ℕ → List ℕ

-- the cell's last 16 bytes are the tag of its first 112
abbrev pub IsStamped : Tagging → ℕ → List ℕ → Type 0
IsStamped tag cell bytes = drop 112 bytes ≡ tag cell (take 112 bytes)

-- what is told of a cell that isn't stamped: the tag that it keeps, and the one that was computed
pub record IsMisstamped (tag : Tagging) (cell : ℕ) (bytes : List ℕ) (damaged : Damaged) : Type 0 where
  pub differs : IsStamped tag cell bytes → ⊥
  pub is : damaged ≡ record { cell = cell; check = Tag; kept = drop 112 bytes; computed = tag cell (take 112 bytes) }

-- an open gate: anything else is closed
unfoldable pub open_gate : List ℕ
open_gate = replicate 128 165

-- as a closed gate is written
unfoldable pub closed_gate : List ℕ
closed_gate = replicate 128 0

-- the number of a body: its first 8 bytes, low byte first
unfoldable pub number_of : List ℕ → ℕ
number_of body = from_le_bytes w64 (take 8 body)

-- the plain bytes of a body
unfoldable pub plain_of : ℕ → List ℕ
plain_of n = to_le_bytes w64 n ++ replicate 104 0

-- the body of a number in a cell
abbrev pub body_of : Tagging → ℕ → ℕ → List ℕ
body_of tag cell n = plain_of n ++ tag cell (plain_of n)

-- a body that obeys its rules
abbrev pub IsWholeBody : Tagging → ℕ → List ℕ → Type 0
IsWholeBody tag cell body = IsStamped tag cell body × (number_of body < 2 ^ 62)

-- the number is too great: told are the number, and 0 as the least that the rule allows
pub record IsTooGreat (cell : ℕ) (body : List ℕ) (damaged : Damaged) : Type 0 where
  pub great : 2 ^ 62 ≤ number_of body
  pub is : damaged ≡ record { cell = cell; check = Form; kept = take 8 body ++ replicate 8 0; computed = replicate 16 0 }
