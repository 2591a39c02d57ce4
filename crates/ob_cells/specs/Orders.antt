-- The reads of a run of cells.
use Rattle.std.specs.Prelude.{◌≡◌, ◌<◌, ◌≤◌, ℕ, ◌+◌, ◌-◌, List, map, None, Result, Ok, Err}
use Rattle.ob_base.specs.declared.fault.Check.TheVariants.{Tag, Seal}
use Rattle.ob_base.specs.declared.fault.Fault.{Fault}
use Rattle.ob_base.specs.declared.fault.Fault.TheVariants.{Damaged as Broken, StoreFault}
use Rattle.ob_store.specs.declared.watch.Note.{Note}
use Rattle.ob_store.specs.declared.watch.Note.TheVariants as note
use Rattle.ob_store.specs.Runs.{from_on}

-- a read of each of so many cells, in rising order
abbrev pub read_notes : ℕ → ℕ → List Note
read_notes base n = map (λ cell. note.Read cell) (from_on base n)

-- The reads that are made of a run: up to the cell whose tag or seal is wrong, or else of all.
abbrev pub reads_till : ℕ → ℕ → Fault → List Note
reads_till base many (Broken cell Tag kept computed) = read_notes base (cell + 1 - base)
reads_till base many (Broken cell Seal kept computed) = read_notes base (cell + 1 - base)
reads_till base many fault = read_notes base many

abbrev pub run_reads : {T : Type 0} → ℕ → ℕ → Result T Fault → List Note
run_reads base many (Ok value) = read_notes base many
run_reads base many (Err fault) = reads_till base many fault

-- What became of them: damage is found in cells that were read.
abbrev pub reads_end : Fault → Result (Unit {0}) Fault
reads_end (Broken cell check kept computed) = Ok tt
reads_end fault = Err fault

abbrev pub reads_of : {T : Type 0} → Result T Fault → Result (Unit {0}) Fault
reads_of (Ok value) = Ok tt
reads_of (Err fault) = reads_end fault

-- one of so many cells from a cell on
abbrev pub IsInRun : ℕ → ℕ → ℕ → Type 0
IsInRun base many cell = (base ≤ cell) × (cell < base + many)

-- the refusals of a run's reads: the store's, or a cell of the run whose tag or seal is wrong
abbrev pub IsRunFault : ℕ → ℕ → Fault → Type 0
IsRunFault base many (Broken cell Tag kept computed) = IsInRun base many cell
IsRunFault base many (Broken cell Seal kept computed) = IsInRun base many cell
IsRunFault base many (StoreFault unsure) = unsure ≡ None
IsRunFault base many _ = ⊥
