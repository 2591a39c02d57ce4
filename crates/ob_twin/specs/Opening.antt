-- Which gates may be open, as far as is known.
use Rattle.std.specs.Prelude.{◌↔◌, ◌==◌, ◌||◌, ℕ, Bool, true, not, if◌then◌else◌, IsTrue, Result, Ok, Err}
use Rattle.ob_store.specs.Disk.{Image}
use Rattle.ob_twin.specs.declared.twin.Twin.{Twin}
use Rattle.ob_twin.specs.declared.twin.Twin.TheVariants.{GENERATION, EPOCH}
use Rattle.ob_twin.specs.declared.gates.Open.{Open}
use Rattle.ob_twin.specs.declared.gates.Gates.{Gates}
use Rattle.ob_twin.specs.declared.set_err.SetErr.{SetErr}
use Rattle.ob_twin.specs.Register.{place_of, IsOpen}

-- what is known of a register's gates
abbrev pub known_of : Twin → Gates → Open
known_of GENERATION gates = gates.generation
known_of EPOCH gates = gates.epoch

abbrev pub with_known : Twin → Gates → Open → Gates
with_known GENERATION gates known = record { generation = known; epoch = gates.epoch }
with_known EPOCH gates known = record { generation = gates.generation; epoch = known }

-- whether the gate of a place is known to be open
abbrev pub is_marked : Open → ℕ → Bool
is_marked known place = if place == 0 then known.zero else known.one

abbrev pub with_mark : Open → ℕ → Open
with_mark known place = if place == 0 then record { zero = true; one = known.one } else record { zero = known.zero; one = true }

-- what is known of the gates is so
pub record GatesAre (known : Open) (first : ℕ) (image : Image) : Type 0 where
  pub zero : IsTrue known.zero ↔ IsOpen first image 0
  pub one : IsTrue known.one ↔ IsOpen first image 1

-- one of them is known to be open
abbrev pub HasOpen : Open → Type 0
HasOpen known = IsTrue (known.zero || known.one)

-- The gate of a place is closed first where it may be open, and where no gate of the register is.
abbrev pub is_closed_first : Open → ℕ → Bool
is_closed_first known place = is_marked known place || not (known.zero || known.one)

-- once a number is set, its gate is known to be open
abbrev pub gates_set : Twin → ℕ → Gates → Result (Unit {0}) SetErr → Gates
gates_set twin n gates (Ok done) = with_known twin gates (with_mark (known_of twin gates) (place_of n))
gates_set twin n gates (Err refused) = gates
