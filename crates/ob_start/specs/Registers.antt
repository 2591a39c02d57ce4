-- What the two registers tell.
use Rattle.std.specs.Prelude.{◌≡◌, ◌⊎◌, ◌<◌, ◌^◌, ℕ, Option, Some, None, Result, Ok, Err}
use Rattle.ob_base.specs.declared.fault.Damaged.{Damaged}
use Rattle.ob_base.specs.declared.fault.Fault.{Fault}
use Rattle.ob_base.specs.declared.fault.Fault.TheVariants as fault
use Rattle.ob_store.specs.Disk.{Image}
use Rattle.ob_seal.specs.declared.keys.Keys.{Keys}
use Rattle.ob_twin.specs.declared.twin.Twin.{Twin}
use Rattle.ob_twin.specs.declared.gates.Gates.{Gates}
use Rattle.ob_twin.specs.declared.gates.Open.{Open}
use Rattle.ob_twin.specs.Keyed.{tagging}
use Rattle.ob_twin.specs.Register.{first_of}
use Rattle.ob_twin.specs.Reading.{NoneOpen, AllWhole, Counts, IsFirstTwinDamage}
use Rattle.ob_twin.specs.Opening.{with_known, GatesAre, HasOpen}
use Rattle.ob_start.specs.declared.registers.Register.{Register}
use Rattle.ob_start.specs.declared.registers.Register.TheVariants.{Closed, Number, Broken}
use Rattle.ob_start.specs.declared.registers.Numbers.{Numbers}

-- the numbers of both registers
pub record Found (keys : Keys) (image : Image) (generation epoch : ℕ) : Type 0 where
  pub generation_whole : AllWhole (tagging keys) 1 image
  pub generation_counts : Counts 1 image generation
  pub epoch_whole : AllWhole (tagging keys) 5 image
  pub epoch_counts : Counts 5 image epoch

-- each register has an open gate, and this is the first body under one, in the order of cells, that breaks a rule
pub record IsRegisterDamage (keys : Keys) (image : Image) (damaged : Damaged) : Type 0 where
  pub generation_open : NoneOpen 1 image → ⊥
  pub epoch_open : NoneOpen 5 image → ⊥
  pub first : IsFirstTwinDamage (tagging keys) 1 image damaged ⊎ (AllWhole (tagging keys) 1 image × IsFirstTwinDamage (tagging keys) 5 image damaged)

-- what is read of one: what was got of it, and damage is no refusal yet
abbrev pub register_held : Result (Option ℕ) Fault → Result Register Fault
register_held (Ok None) = Ok Closed
register_held (Ok (Some n)) = Ok (Number n)
register_held (Err (fault.Damaged cell check kept computed)) = Ok (Broken (record { cell = cell; check = check; kept = kept; computed = computed }))
register_held (Err refused) = Err refused

-- what is read of one
abbrev pub IsRegister : Keys → ℕ → Image → Register → Type 0
IsRegister keys first image Closed = NoneOpen first image
IsRegister keys first image (Number n) = AllWhole (tagging keys) first image × Counts first image n
IsRegister keys first image (Broken damaged) = IsFirstTwinDamage (tagging keys) first image damaged

-- it has a number
abbrev pub IsNumber : Register → Type 0
IsNumber Closed = ⊥
IsNumber (Number n) = Unit {0}
IsNumber (Broken damaged) = ⊥

-- its number is small
abbrev pub IsBelow : Register → Type 0
IsBelow Closed = Unit {0}
IsBelow (Number n) = n < 2 ^ 62
IsBelow (Broken damaged) = Unit {0}

-- what is answered of both, where the store doesn't fail
abbrev pub AreRegisters : Keys → Image → Result Numbers Fault → Type 0
AreRegisters keys image (Ok numbers) = Found keys image numbers.generation numbers.epoch
AreRegisters keys image (Err fault.NotStore) = NoneOpen 1 image ⊎ NoneOpen 5 image
AreRegisters keys image (Err (fault.Damaged cell check kept computed)) = IsRegisterDamage keys image (record { cell = cell; check = check; kept = kept; computed = computed })
AreRegisters keys image (Err (fault.StoreFault unsure)) = Unit {0}
AreRegisters keys image (Err _) = ⊥

abbrev pub IsRegistersFault : Fault → Type 0
IsRegistersFault fault.NotStore = Unit {0}
IsRegistersFault (fault.Damaged cell check kept computed) = Unit {0}
IsRegistersFault (fault.StoreFault unsure) = unsure ≡ None
IsRegistersFault _ = ⊥

-- the gates of a register are told as they are
pub record KnowsGates (twin : Twin) (old new : Gates) (image : Image) : Type 0 where
  pub known : Open
  pub kept : new ≡ with_known twin old known
  pub are : GatesAre known (first_of twin) image

-- each register has a gate that is known to be open
abbrev pub HaveOpen : Gates → Type 0
HaveOpen gates = HasOpen gates.generation × HasOpen gates.epoch
