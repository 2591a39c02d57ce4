-- What stands after a get, by its answer.
use Rattle.std.specs.Prelude.{◌≡◌, ℕ, List, Option, Result, Ok, Err}
use Rattle.ob_base.specs.declared.fault.Fault.{Fault}
use Rattle.ob_base.specs.declared.fault.Fault.TheVariants.{StoreFault}
use Rattle.ob_store.specs.declared.event.Event.{Event}
use Rattle.ob_store.specs.declared.watch.Note.{Note}
use Rattle.ob_store.specs.Disk.{Image}
use Rattle.ob_store.specs.Lines.{Trace}
use Rattle.ob_store.specs.Told.{Tells, TellsFirst}
use Rattle.ob_twin.specs.declared.twin.Twin.{Twin}
use Rattle.ob_twin.specs.declared.gates.Gates.{Gates}
use Rattle.ob_twin.specs.declared.gates.Open.{Open}
use Rattle.ob_twin.specs.Register.{first_of}
use Rattle.ob_twin.specs.Opening.{with_known, GatesAre}

-- this value, or a refusal of this kind
abbrev pub IsOkOr : {T E : Type 0} → T → (E → Type 0) → Result T E → Type 0
IsOkOr value Refusal (Ok v) = v ≡ value
IsOkOr value Refusal (Err e) = Refusal e

-- The gates are told as they are, unless the store failed: then they are told as before.
abbrev pub IsGates : Twin → Gates → Gates → Image → Result (Option ℕ) Fault → Type 0
IsGates twin old new image (Err (StoreFault unsure)) = new ≡ old
IsGates twin old new image _ = (known : Open) × (new ≡ with_known twin old known) × GatesAre known (first_of twin) image

-- all the reads, unless the store failed: then the first of them
abbrev pub DoesReads : {V : Type 0} → List Note → Option (List Event) → Option (List Event) → Trace → Trace → Result V Fault → Type 0
DoesReads notes old new before after (Err (StoreFault unsure)) = TellsFirst notes old new before after
DoesReads notes old new before after _ = Tells notes notes old new before after
