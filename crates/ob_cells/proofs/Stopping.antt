-- What reads of a run do, where one of them is refused or finds a damaged cell.
use Rattle.std.proofs.Common.{◌≡◌, ◌<◌, ◌≤◌, ℕ, ◌+◌, ◌-◌, List, [], ◌∷◌, Option, Ok, subst, arith}
use Rattle.ob_base.specs.declared.fault.Check.TheVariants.{Tag, Seal, Form, Epoch}
use Rattle.ob_base.specs.declared.fault.Fault.{Fault}
use Rattle.ob_base.specs.declared.fault.Fault.TheVariants.{Memory, Usage, BadScript, BadParams, NotStore, Damaged as Broken, StoreFault, StashFull, Worn, SourceFault, SinkFault}
use Rattle.ob_seal.specs.declared.keys.Keys.{Keys}
use Rattle.ob_seal.specs.Pieces.{piece}
use Rattle.ob_store.specs.declared.event.Event.{Event}
use Rattle.ob_store.specs.declared.watch.Note.TheVariants.{Read}
use Rattle.ob_store.specs.Disk.{Disk}
use Rattle.ob_store.specs.Lines.{Trace}
use Rattle.ob_store.specs.Told.{Tells, TellsFirst, Does}
use Rattle.ob_store.proofs.Doing.{does_all, does_err}
use Rattle.ob_cells.specs.declared.run.Identity.{Identity}
use Rattle.ob_cells.specs.Orders.{read_notes, reads_till, reads_end, IsRunFault}
use Rattle.ob_cells.specs.Reads.{IsCellFault, ReadsRun}
use Rattle.ob_cells.specs.Runs.{IsRun, run_at}
use Rattle.ob_cells.proofs.Notes.{read_more, read_part, first_told, first_part}

-- a fault at one cell of a run is one of the run
pub fault_more : (base many i : ℕ) (f : Fault) → i < many → IsRunFault (base + i) 1 f → IsRunFault base many f
fault_more base many i (Broken cell Tag kept computed) lt is = (omega (arith, is.0), omega (arith, is.1))
fault_more base many i (Broken cell Seal kept computed) lt is = (omega (arith, is.0), omega (arith, is.1))
fault_more base many i (Broken cell Form kept computed) lt is = absurd is
fault_more base many i (Broken cell Epoch kept computed) lt is = absurd is
fault_more base many i Memory lt is = absurd is
fault_more base many i Usage lt is = absurd is
fault_more base many i (BadScript line) lt is = absurd is
fault_more base many i (BadParams field) lt is = absurd is
fault_more base many i NotStore lt is = absurd is
fault_more base many i (StoreFault unsure) lt is = is
fault_more base many i (StashFull left) lt is = absurd is
fault_more base many i (Worn number) lt is = absurd is
fault_more base many i SourceFault lt is = absurd is
fault_more base many i SinkFault lt is = absurd is

module _ (base many i : ℕ) (a c : Option (List Event)) (k m : Trace) (lt : i < many) (made : Tells (read_notes base (i + 1)) (read_notes base (i + 1)) a c k m) (part : TellsFirst (read_notes base many) a c k m) where
  -- the reads end at this cell
  ended : (cell : ℕ) → base + i ≤ cell → cell < (base + i) + 1 → Tells (read_notes base (cell + 1 - base)) (read_notes base (cell + 1 - base)) a c k m
  ended cell low high = let e : i + 1 ≡ cell + 1 - base = omega arith in subst (λ n. Tells (read_notes base n) (read_notes base n) a c k m) e made

  stopped_does : (f : Fault) → IsRunFault (base + i) 1 f → Does (reads_till base many f) a c k m (reads_end f)
  stopped_does (Broken cell Tag kept computed) is = does_all a c k m _ tt (ended cell is.0 is.1)
  stopped_does (Broken cell Seal kept computed) is = does_all a c k m _ tt (ended cell is.0 is.1)
  stopped_does (Broken cell Form kept computed) is = absurd is
  stopped_does (Broken cell Epoch kept computed) is = absurd is
  stopped_does Memory is = absurd is
  stopped_does Usage is = absurd is
  stopped_does (BadScript line) is = absurd is
  stopped_does (BadParams field) is = absurd is
  stopped_does NotStore is = absurd is
  stopped_does (StoreFault unsure) is = does_err a c k m (read_notes base many) (StoreFault unsure) part
  stopped_does (StashFull left) is = absurd is
  stopped_does (Worn number) is = absurd is
  stopped_does SourceFault is = absurd is
  stopped_does SinkFault is = absurd is

pub does_more : (base many i : ℕ) (a b c : Option (List Event)) (k l m : Trace) (f : Fault) → i < many → IsRunFault (base + i) 1 f → Tells (read_notes base i) (read_notes base i) a b k l
    → Tells (Read (base + i) ∷ []) (Read (base + i) ∷ []) b c l m → Does (reads_till base many f) a c k m (reads_end f)
does_more base many i a b c k l m f lt is so_far one = stopped_does base many i a c k m lt (read_more base i a b c k l m so_far one) (read_part base i a b c k l m so_far one many lt) f is

zero_on : (n : ℕ) → n ≡ n + 0
zero_on n = omega arith

pub fault_first : (base many : ℕ) (f : Fault) → 0 < many → IsRunFault base 1 f → IsRunFault base many f
fault_first base many f some is = fault_more base many 0 f some (subst (λ n. IsRunFault n 1 f) (zero_on base) is)

pub does_first : (base many : ℕ) (a b : Option (List Event)) (k l : Trace) (f : Fault) → 0 < many → IsRunFault base 1 f → Tells (Read base ∷ []) (Read base ∷ []) a b k l
    → Does (reads_till base many f) a b k l (reads_end f)
does_first base many a b k l f some is one =
    stopped_does base many 0 a b k l some (first_told base a b k l one) (first_part base a b k l many some one) f (subst (λ n. IsRunFault n 1 f) (zero_on base) is)

-- all cells are read
pub read_all : (keys : Keys) (base many i : ℕ) (disk : Disk) (plain : List ℕ) (a b : Option (List Event)) (k l : Trace) (first : Identity) → i ≡ many → (disk.tells → IsRun keys base i first (λ j. piece j plain) (run_at base disk.cells))
    → Tells (read_notes base i) (read_notes base i) a b k l → ReadsRun keys base many disk plain a b k l (Ok first)
read_all keys base many i disk plain a b k l first all run tells = record {
  value = λ told. subst (λ n. IsRun keys base n first (λ j. piece j plain) (run_at base disk.cells)) all (run told);
  faults = tt;
  does = does_all a b k l (read_notes base many) tt (subst (λ n. Tells (read_notes base n) (read_notes base n) a b k l) all tells);
}

-- a fault of a run is one of its cells
pub fault_any : (base many : ℕ) (f : Fault) → IsRunFault base many f → IsCellFault f
fault_any base many (Broken cell Tag kept computed) is = tt
fault_any base many (Broken cell Seal kept computed) is = tt
fault_any base many (Broken cell Form kept computed) is = absurd is
fault_any base many (Broken cell Epoch kept computed) is = absurd is
fault_any base many Memory is = absurd is
fault_any base many Usage is = absurd is
fault_any base many (BadScript line) is = absurd is
fault_any base many (BadParams field) is = absurd is
fault_any base many NotStore is = absurd is
fault_any base many (StoreFault unsure) is = is
fault_any base many (StashFull left) is = absurd is
fault_any base many (Worn number) is = absurd is
fault_any base many SourceFault is = absurd is
fault_any base many SinkFault is = absurd is
