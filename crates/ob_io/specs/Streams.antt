-- What is seen of bytes that come in or go out.
use Rattle.std.specs.Prelude.{ℕ, List, Option}
use Rattle.ob_io.specs.declared.Sink as sink
use Rattle.ob_io.specs.declared.Source as source

-- the bytes that are left or written, where it is told, and the count of faults
pub record Flow : Type 0 where
  pub bytes : Option (List ℕ)
  pub faults : ℕ

abbrev pub flow : Option (List ℕ) → ℕ → Flow
flow bytes faults = record { bytes = bytes; faults = faults }

-- what is seen of a sink
abbrev pub outflow : {S : Type 0} → sink.Ghosts S → S → Flow
outflow tells one = flow (tells.written one) (tells.faults one)

-- what is seen of a source
abbrev pub inflow : {S : Type 0} → source.Ghosts S → S → Flow
inflow tells one = flow (tells.left one) (tells.faults one)
