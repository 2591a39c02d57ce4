-- Which half is asked, and how two answers are one.
use Rattle.std.specs.Prelude.{◌≡◌, ℕ, ◌+◌, ◌^◌, ◌-◌, min, Result, Ok, Err}
use Rattle.ob_base.specs.declared.fault.Failed.{Failed}
use Rattle.ob_store.specs.Disk.{Disk}

-- refused where either was
abbrev pub both : Result (Unit {0}) Failed → Result (Unit {0}) Failed → Result (Unit {0}) Failed
both (Ok x) two = two
both (Err e) two = Err e

-- The first half was asked, then the second, whatever the first answered.
pub record AreAsked (Asked : Disk → Disk → Result (Unit {0}) Failed → Type 0) (a c b d : Disk) (result : Result (Unit {0}) Failed) : Type 0 where
  pub one : Result (Unit {0}) Failed
  pub two : Result (Unit {0}) Failed
  pub first : Asked a c one
  pub second : Asked b d two
  pub answer : result ≡ both one two

-- both up to the last value of a `u64`
abbrev pub saturating_sum : ℕ → ℕ → ℕ
saturating_sum some more = min (some + more) (2 ^ 64 - 1)

-- a refusal is counted
abbrev pub with_refusal : {T : Type 0} → Result T Failed → ℕ → ℕ
with_refusal (Ok value) failed = failed
with_refusal (Err e) failed = saturating_sum failed 1
