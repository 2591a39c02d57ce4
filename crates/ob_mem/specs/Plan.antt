-- Calls that are to fail, by their numbers.
use Rattle.std.specs.Prelude.{◌≡◌, ◌⊎◌, ℕ, ◌+◌, ◌-◌, ◌^◌, min, Result, IsErr, OnErr, OnOk}
use Rattle.ob_base.specs.Causes.{Rose}

-- the number of the next call: calls are counted from 0, up to the last value of a `u64`
abbrev pub next_call : ℕ → ℕ
next_call call = min (call + 1) (2 ^ 64 - 1)

-- A call fails exactly where that is planned, or where memory was wanting, which its count tells.
pub record FailsExactly {T E : Type 0} (Planned : Type 0) (starved now : ℕ) (result : Result T E) : Type 0 where
  pub named : Planned → IsErr result
  pub refused : OnErr result (Planned ⊎ Rose starved now)
  pub fed : OnOk result (now ≡ starved)
