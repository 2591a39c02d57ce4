-- What the refusals of a set mean.
use Rattle.std.specs.Prelude.{◌≡◌, ℕ, None, Result, Ok, Err}
use Rattle.ob_store.specs.Disk.{Image}
use Rattle.ob_base.specs.declared.fault.Fault.TheVariants.{StoreFault}
use Rattle.ob_twin.specs.declared.twin.Twin.{Twin}
use Rattle.ob_twin.specs.declared.set_err.SetErr.{SetErr}
use Rattle.ob_twin.specs.declared.set_err.SetErr.TheVariants.{Before, Unsure}
use Rattle.ob_twin.specs.Bodies.{Tagging}
use Rattle.ob_twin.specs.Register.{KeepsAt, OldOrNew}
use Rattle.ob_twin.specs.Orders.{unsure_of}

-- the faults of a set
abbrev pub IsSetFault : Twin → ℕ → SetErr → Type 0
IsSetFault twin n (Before fault) = fault ≡ StoreFault None
IsSetFault twin n (Unsure fault) = fault ≡ StoreFault (unsure_of twin n)

-- it was refused before the last write began
abbrev pub IsBefore : Result (Unit {0}) SetErr → Type 0
IsBefore (Ok done) = ⊥
IsBefore (Err (Before fault)) = Unit {0}
IsBefore (Err (Unsure fault)) = ⊥

-- what a crash leaves of it: the old number where it was refused before the last write began, else one of the two
abbrev pub SetLeaves : Tagging → ℕ → Image → ℕ → ℕ → Result (Unit {0}) SetErr → Image → Type 0
SetLeaves tag first from old new (Err (Before fault)) image = KeepsAt tag first from old image
SetLeaves tag first from old new (Err (Unsure fault)) image = OldOrNew tag first from old new image
SetLeaves tag first from old new (Ok done) image = OldOrNew tag first from old new image
