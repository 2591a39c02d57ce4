-- What the answers of the program's vaults are seen as.
use Rattle.std.specs.Prelude.{ℕ, ◌≡◌, List, map, Option, None, Some, Result, Ok, Err}
use Rattle.ob_base.specs.declared.fault.Fault.{Fault}
use Rattle.ob_base.specs.declared.fault.Fault.TheVariants.{Damaged, StoreFault, StashFull, Worn}
use Rattle.ob_base.specs.declared.value.Write.{Write}
use Rattle.ob_base.specs.Writes.{pair_of}
use Rattle.ob_serial.specs.declared.vault.EndErr.{EndErr}
use Rattle.ob_serial.specs.declared.vault.EndErr.TheVariants.{Before, Unsure}
use Rattle.ob_serial.specs.Vaults.{VaultAnswer, Values, Ended, RefusedBy, DoubtBy}

abbrev pub writes_of : List Write → List (ℕ × Option (List ℕ))
writes_of writes = map pair_of writes

abbrev pub fetch_answer : List (Option (List ℕ)) → Result (Unit {0}) Fault → VaultAnswer
fetch_answer values (Ok done) = Values values
fetch_answer values (Err fault) = RefusedBy fault

abbrev pub end_answer : Result (Unit {0}) EndErr → VaultAnswer
end_answer (Ok done) = Ended
end_answer (Err (Before fault)) = RefusedBy fault
end_answer (Err (Unsure fault)) = DoubtBy fault

-- the faults of a fetch
abbrev pub IsFetchFault : Fault → Type 0
IsFetchFault (StoreFault unsure) = unsure ≡ None
IsFetchFault (Damaged cell check kept computed) = Unit {0}
IsFetchFault (Worn number) = Unit {0}
IsFetchFault _ = ⊥

-- The faults of the end of an epoch: in doubt is only an end at whose last write or sync the store failed.
abbrev pub IsEndFault : ℕ → EndErr → Type 0
IsEndFault epoch (Before (StoreFault unsure)) = unsure ≡ None
IsEndFault epoch (Before (Damaged cell check kept computed)) = Unit {0}
IsEndFault epoch (Before (StashFull rows)) = Unit {0}
IsEndFault epoch (Before (Worn number)) = Unit {0}
IsEndFault epoch (Before _) = ⊥
IsEndFault epoch (Unsure fault) = fault ≡ StoreFault (Some epoch)

-- a refusal of the store itself
abbrev pub IsStoreEnd : EndErr → Type 0
IsStoreEnd (Before (StoreFault unsure)) = Unit {0}
IsStoreEnd (Before _) = ⊥
IsStoreEnd (Unsure fault) = Unit {0}
