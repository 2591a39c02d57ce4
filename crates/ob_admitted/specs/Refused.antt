-- What an opening says of itself that was refused, as a row of runs takes it.
use Rattle.std.specs.Prelude.{ℕ, List, ◌++◌, take}
use Rattle.std.proofs.Common.{inl, inr}
use Rattle.ob_base.specs.declared.fault.Fault.{Fault}
use Rattle.ob_base.specs.declared.params.Params.{Params}
use Rattle.ob_store.specs.Calls.{Keeps}
use Rattle.ob_store.specs.Disk.{Disk}
use Rattle.ob_store.specs.Images.{Passes, Same}
use Rattle.ob_store.specs.Lines.{Trace}
use Rattle.ob_store.specs.declared.watch.Note.{Note}
use Rattle.ob_schedule.specs.Schedule.{head_notes}
use Rattle.ob_seal.specs.declared.keys.Keys.{Keys}
use Rattle.ob_stand.specs.Stands.{RingStanding, Stands}
use Rattle.ob_stand.specs.Table.{flat_of}
use Rattle.ob_tables.specs.Content.{content_of}
use Rattle.ob_recover.specs.Repeats.{repeat_notes}
use Rattle.ob_recover.specs.declared.found.Found.{Found}
use Rattle.ob_opening.specs.OpeningRuns.{ReadsFirst, begun_notes}
use Rattle.ob_opening.specs.OpeningStops.{OpeningStops, StopsAt}
use Rattle.ob_admitted.specs.Stopped.{IsStopShown}

module _ (keys : Keys) (most : ℕ) (p : Params) (old new : Disk) (before after : Trace) (fault : Fault) where
  -- the notes that it showed: some of its reads,
  abbrev pub notes_of_reads : ReadsFirst keys p old new before after → List Note
  notes_of_reads (inl registers) = registers.shown
  notes_of_reads (inr finding) = (finding.told).shown

  -- or some of those before its repeats, or all of these and some repeats
  abbrev pub notes_at : (found : Found) → StopsAt (begun_notes p found) keys most p found old new before after fault → List Note
  notes_at found (inl short) = (short.first).shown
  notes_at found (inr again) = begun_notes p found ++ repeat_notes p (content_of found.tables).versions (flat_of p (content_of found.tables)) (take ((again.told).repeats).count found.records)

  abbrev pub notes_of_stop : OpeningStops keys most p old new before after fault → List Note
  notes_of_stop (inl reads) = notes_of_reads reads.0
  notes_of_stop (inr behind) = notes_at behind.found behind.stops

-- The head was read, and behind it the opening stopped so. Where the store stood for something, it showed and left what a row takes of it.
abbrev pub RefusedOpeningsAreShown : {S : Type 0} → (S → Disk) → Type 0
RefusedOpeningsAreShown {S} disk = (keys : Keys) (most : ℕ) (p : Params) (old read new : S) (before after : Trace) (fault : Fault) (s : RingStanding) → (disk old).tells → Stands keys p s (disk old).cells → Keeps (disk old) (disk read) → Passes Same (disk old) (disk read)
    → (stops : OpeningStops keys most p (disk read) (disk new) before after fault)
    → IsStopShown keys p (disk old) (disk new) (head_notes ++ notes_of_stop keys most p (disk read) (disk new) before after fault stops)

-- Of the head some notes were shown, or none, and nothing was done: so it is where the head was refused, or the run before it came to that.
abbrev pub RefusedHeadsAreShown : {S : Type 0} → (S → Disk) → Type 0
RefusedHeadsAreShown {S} disk = (keys : Keys) (p : Params) (old new : S) (count : ℕ) → Passes Same (disk old) (disk new) → IsStopShown keys p (disk old) (disk new) (take count head_notes)
