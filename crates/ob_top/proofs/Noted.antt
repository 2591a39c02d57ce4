-- The events of a read that may have failed.
use Rattle.std.proofs.Common.{List, Option, Result, Ok, Err}
use Rattle.ob_base.specs.declared.fault.Fault.{Fault}
use Rattle.ob_base.specs.declared.fault.Fault.TheVariants.{Memory, Usage, BadScript, BadParams, NotStore, Damaged, StoreFault, StashFull, Worn, SourceFault, SinkFault}
use Rattle.ob_store.specs.Calls.{NotesReads}
use Rattle.ob_store.specs.declared.event.Event.{Event}
use Rattle.ob_store.specs.declared.watch.Note.{Note}
use Rattle.ob_store.specs.Lines.{Trace}
use Rattle.ob_store.specs.Told.{events_of}
use Rattle.ob_store.proofs.Doing.{first_noted}
use Rattle.ob_twin.specs.Got.{DoesReads}

-- reads that may have failed
pub reads_noted : {V : Type 0} (notes : List Note) (a b : Option (List Event)) (k l : Trace) (r : Result V Fault) → DoesReads notes a b k l r → NotesReads (events_of notes) a b r
reads_noted notes a b k l (Ok v) tells = tells.seen
reads_noted notes a b k l (Err (StoreFault unsure)) tells = first_noted notes a b k l tells
reads_noted notes a b k l (Err Memory) tells = tells.seen
reads_noted notes a b k l (Err Usage) tells = tells.seen
reads_noted notes a b k l (Err (BadScript line)) tells = tells.seen
reads_noted notes a b k l (Err (BadParams field)) tells = tells.seen
reads_noted notes a b k l (Err NotStore) tells = tells.seen
reads_noted notes a b k l (Err (Damaged cell check kept computed)) tells = tells.seen
reads_noted notes a b k l (Err (StashFull rows)) tells = tells.seen
reads_noted notes a b k l (Err (Worn number)) tells = tells.seen
reads_noted notes a b k l (Err SourceFault) tells = tells.seen
reads_noted notes a b k l (Err SinkFault) tells = tells.seen
