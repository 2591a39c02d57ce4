-- What an opening of a ring store does: its calls, what it shows, and what a crash leaves meanwhile.
use Rattle.std.specs.Prelude.{◌≡◌, ◌⊎◌, ℕ, suc, List, [], ◌++◌, length, Option, Result, Ok, Err}
use Rattle.ob_base.specs.declared.params.Params.{Params}
use Rattle.ob_base.specs.declared.fault.Fault.{Fault}
use Rattle.ob_base.specs.declared.fault.Fault.TheVariants as fault
use Rattle.ob_store.specs.declared.event.Event.{Event}
use Rattle.ob_store.specs.declared.watch.Note.{Note}
use Rattle.ob_store.specs.Calls.{GoesOn, Keeps, Notes}
use Rattle.ob_store.specs.Disk.{Disk, Image}
use Rattle.ob_store.specs.Images.{IsSynced, LeavesOnly, Passes, Same}
use Rattle.ob_store.specs.Lines.{Trace}
use Rattle.ob_store.specs.Told.{Tells, TellsFirst, events_of}
use Rattle.ob_seal.specs.declared.keys.Keys.{Keys}
use Rattle.ob_twin.specs.declared.gates.Gates.{Gates}
use Rattle.ob_twin.specs.Keyed.{tagging}
use Rattle.ob_twin.specs.Opening.{is_closed_first}
use Rattle.ob_twin.specs.Register.{KeepsAt, OldOrNew, StandsAt, place_of}
use Rattle.ob_twin.specs.Stages.{AreSpans}
use Rattle.ob_start.specs.Beginning.{BeginsFrom, IsBeginStage, IsBegun, ReadsThenSync}
use Rattle.ob_start.specs.Orders.{begin_notes, registers_notes}
use Rattle.ob_tables.specs.Content.{content_of}
use Rattle.ob_stand.specs.Stands.{OneOf, RingStanding, Stands, with_generation}
use Rattle.ob_log.specs.Logs.{BatchRecord}
use Rattle.ob_schedule.specs.Phases.{open_phases}
use Rattle.ob_schedule.specs.Schedule.{Fills, Public, after_open, open_notes}
use Rattle.ob_recover.specs.Known.{fills_of, gates_open, public_of_kept}
use Rattle.ob_recover.specs.Telling.{AreTold}
use Rattle.ob_start.specs.Registers.{HaveOpen}
use Rattle.ob_recover.specs.declared.found.Found.{Found}
use Rattle.ob_recover.specs.Finds.{FindsPart, IsFoundInRing, finding_notes}
use Rattle.ob_recover.specs.Repeats.{RepeatDoes}
use Rattle.ob_opening.specs.declared.opening.Opening.{Opening}
use Rattle.ob_opening.specs.Openings.{IsOpeningOf, IsToldOpening}

-- ---- the orders

-- the calls that begin the generation behind the one found
abbrev pub next_notes : Found → List Note
next_notes found = begin_notes (found.gates).generation (suc found.generation)

-- all that is found is read, then the next generation begins
abbrev pub begun_notes : Params → Found → List Note
begun_notes p found = finding_notes p found.epoch ++ next_notes found

-- ---- the calls of the store, and what is shown

-- These steps were made and shown; then the records' batches are read and shown in turn: all of them where it went well, else the first
-- ones.
pub record RepeatsBehind {T : Type 0} (steps : List Note) (most : ℕ) (p : Params) (found : Found) (old new : Option (List Event)) (before after : Trace) (result : Result T Fault) : Type 0 where
  pub seen : Option (List Event)
  pub shown : Trace
  pub begun : Tells steps steps old seen before shown
  pub repeats : RepeatDoes most p (content_of found.tables) found.records seen new shown after result

-- the first of the reads were made
abbrev pub ReadsFirst : Keys → Params → Disk → Disk → Trace → Trace → Type 0
ReadsFirst keys p old new before after = TellsFirst registers_notes old.seen new.seen before after ⊎ FindsPart keys p old new before after

-- Some of these steps were made, the first ones; or all of them, and the batches of the first records.
abbrev pub BeginsFirst : List Note → ℕ → Params → Found → Option (List Event) → Option (List Event) → Trace → Trace → Fault → Type 0
BeginsFirst steps most p found old new before after fault = TellsFirst steps old new before after ⊎ RepeatsBehind {T = Unit {0}} steps most p found old new before after (Err fault)

-- all was found, and some of what follows was done
pub record OpensPart (keys : Keys) (most : ℕ) (p : Params) (old new : Disk) (before after : Trace) (fault : Fault) : Type 0 where
  pub found : Found
  pub found_in : old.tells → IsFoundInRing keys p old.cells found
  pub told : BeginsFirst (begun_notes p found) most p found old.seen new.seen before after fault

-- all was found and read, and nothing else done
pub record ReadsAll (keys : Keys) (p : Params) (old new : Disk) (before after : Trace) : Type 0 where
  pub found : Found
  pub found_in : old.tells → IsFoundInRing keys p old.cells found
  pub told : Tells (finding_notes p found.epoch) (finding_notes p found.epoch) old.seen new.seen before after
  pub keeps : Keeps old new
  pub passes : Passes Same old new

-- what a refused opening did
abbrev pub RefusedDoes : Keys → ℕ → Params → Disk → Disk → Trace → Trace → Fault → Type 0
RefusedDoes keys most p old new before after fault.NotStore = Tells registers_notes registers_notes old.seen new.seen before after
RefusedDoes keys most p old new before after (fault.Worn number) = ReadsAll keys p old new before after
RefusedDoes keys most p old new before after fault.Memory = ReadsFirst keys p old new before after
RefusedDoes keys most p old new before after fault = ReadsFirst keys p old new before after ⊎ OpensPart keys most p old new before after fault

-- ---- the generation

-- The next generation was made sure of, and the store was this one then: where the register stood at the one before, each image has it.
-- Before it these steps were made alone, the first of its syncs among them; behind it only reads.
pub record BeginsAt {S : Type 0} (disk : S → Disk) (keys : Keys) (steps : List Note) (generation : ℕ) (old new : S) : Type 0 where
  pub between : S
  pub sure : (disk old).tells → StandsAt (tagging keys) 1 (disk old).cells generation → (c : Image) → (disk between).may_leave c → StandsAt (tagging keys) 1 c (suc generation)
  pub begun : Notes (events_of steps) (disk old).seen (disk between).seen
  pub from : BeginsFrom disk keys generation old between
  pub whole : IsBegun disk keys generation old between from
  pub settled : (disk old).tells → IsSynced (disk between)
  pub cells : (disk old).tells → StandsAt (tagging keys) 1 (disk old).cells generation → KeepsAt (tagging keys) 1 (disk old).cells (suc generation) (disk between).cells
  pub later : GoesOn (disk between) (disk new)
  pub keeps : Keeps (disk between) (disk new)
  pub reads : Passes Same (disk between) (disk new)

-- the tape is at this generation, and nothing is drawn of it
pub record IsAtStart (present : ℕ) (drawn : List ℕ) (generation : ℕ) : Type 0 where
  pub present_is : present ≡ generation
  pub none_drawn : drawn ≡ []

-- a refused opening began the generation behind the one found, and the tape is at its start
pub record StartsTape {S : Type 0} (disk : S → Disk) (keys : Keys) (p : Params) (old new : S) (present : ℕ) (drawn : List ℕ) : Type 0 where
  pub found : Found
  pub found_in : (disk old).tells → IsFoundInRing keys p (disk old).cells found
  pub begins : BeginsAt disk keys (begun_notes p found) found.generation old new
  pub tape : IsAtStart present drawn (suc found.generation)

-- ---- what is written

-- nothing was written, and the tape is as before
pub record IsReadAlone {S T : Type 0} (disk : S → Disk) (old new : S) (tape_old tape_new : T) : Type 0 where
  pub tape : tape_new ≡ tape_old
  pub keeps : Keeps (disk old) (disk new)
  pub passes : Passes Same (disk old) (disk new)

-- A refused opening wrote nothing, unless its store failed, or what is damaged is a batch that was read in the generation begun.
abbrev pub RefusedWrites : {S T : Type 0} → (S → Disk) → Keys → Params → S → S → T → T → (present : ℕ) (drawn : List ℕ) → Fault → Type 0
RefusedWrites disk keys p old new tape_old tape_new present drawn (fault.StoreFault unsure) = Unit {0}
RefusedWrites disk keys p old new tape_old tape_new present drawn (fault.Damaged cell check kept computed) = IsReadAlone disk old new tape_old tape_new ⊎ StartsTape disk keys p old new present drawn
RefusedWrites disk keys p old new tape_old tape_new present drawn _ = IsReadAlone disk old new tape_old tape_new

-- ---- what a crash leaves

-- This was found, and from that store on, where the first sync had succeeded, the opening came in the stages in which the generation behind it begins;
-- and then, if it came so far, in the one in which batches are shown again.
pub record BeginsInStages {S : Type 0} (disk : S → Disk) (keys : Keys) (p : Params) (old synced new : S) : Type 0 where
  pub found : Found
  pub found_in : IsFoundInRing keys p (disk old).cells found
  pub ends : List S
  pub stages : StandsAt (tagging keys) 1 (disk old).cells found.generation
      → AreSpans (IsBeginStage disk keys (is_closed_first (found.gates).generation (place_of (suc found.generation))) (suc found.generation) synced) 0 synced ends new

-- The first sync succeeded, and the store was this one then: no write waited, and up to it only reads were called for. Until then a crash
-- leaves what it might have left before; from then on the register stands at the old generation or the next one, by its stages, and an image
-- stands for what was read, at one of the two.
pub record OpensFrom {S : Type 0} (disk : S → Disk) (keys : Keys) (p : Params) (old new : S) : Type 0 where
  pub synced : S
  pub called : ReadsThenSync (disk old) (disk synced)
  pub until : Passes Same (disk old) (disk synced)
  pub keeps : Keeps (disk old) (disk synced)
  pub settled : (disk old).tells → IsSynced (disk synced)
  pub register : (g : ℕ) → (disk old).tells → StandsAt (tagging keys) 1 (disk old).cells g → LeavesOnly (disk synced) (disk new) (OldOrNew (tagging keys) 1 (disk synced).cells g (suc g))
  pub since : (s : RingStanding) → (disk old).tells → Stands keys p s (disk old).cells → LeavesOnly (disk synced) (disk new) (OneOf keys p s (with_generation s (suc s.generation)))
  pub in_stages : (disk old).tells → BeginsInStages disk keys p old synced new

-- a refused one may have left all images as they were
abbrev pub OpeningLeaves : {S L : Type 0} → (S → Disk) → Keys → Params → S → S → Result (Opening L) Fault → Type 0
OpeningLeaves disk keys p old new (Ok o) = OpensFrom disk keys p old new
OpeningLeaves disk keys p old new (Err refused) = Passes Same (disk old) (disk new) ⊎ OpensFrom disk keys p old new

-- ---- the public schedule

-- what the store may know of what was found, behind a run that had shown these records' batches and knew these gates
abbrev pub public_before : Params → Found → List BatchRecord → Gates → Public
public_before p found shown known = public_of_kept p (content_of found.tables) shown found.epoch known

-- what fills the holes: the labels and the slots of the table's picks under the records' own words
abbrev pub found_fills : Params → Found → Fills
found_fills p found = fills_of p (content_of found.tables) found.records

-- Whatever the run before had shown and knew of the gates: all that is told is the schedule's opening, with the gates found and a
-- repeat for each record, whose reads are dealt to lanes; and it leads to what the store may know of what is kept now.
pub record FollowsSchedule (most : ℕ) (p : Params) (found : Found) (gates : Gates) (old new : Option (List Event)) (before after : Trace) : Type 0 where
  pub found_open : HaveOpen found.gates
  pub told : (shown : List BatchRecord) (known : Gates)
      → AreTold most (open_phases p (public_before p found shown known) (found_fills p found) (gates_open found.gates) (suc found.generation) (length found.records))
      (open_notes p (public_before p found shown known) (found_fills p found) (gates_open found.gates) (suc found.generation) (length found.records)) old new before after
  pub leads : (shown : List BatchRecord) (known : Gates)
      → after_open p (public_before p found shown known) (found_fills p found) (gates_open found.gates) (suc found.generation) (length found.records) ≡ public_before p found found.records gates

-- ---- an opening that went well

-- What was found; what the opening is of that; what the store tells; that the generation began; and all that was done, which is the
-- schedule's opening.
pub record IsRingOpened {S L : Type 0} (disk : S → Disk) (keys : Keys) (most : ℕ) (p : Params) (old new : S) (before after : Trace) (o : Opening L) : Type 0 where
  pub found : Found
  pub is : IsOpeningOf keys p found o
  pub lanes : (o.crew).lanes ≡ most
  pub told : (disk old).tells → IsToldOpening keys p (disk old).cells (disk new) found o
  pub stood : (disk old).tells → StandsAt (tagging keys) 1 (disk old).cells found.generation → StandsAt (tagging keys) 1 (disk new).cells (suc found.generation)
  pub begins : BeginsAt disk keys (begun_notes p found) found.generation old new
  pub does : RepeatsBehind {T = Unit {0}} (begun_notes p found) most p found (disk old).seen (disk new).seen before after (Ok tt)
  pub follows : FollowsSchedule most p found o.gates (disk old).seen (disk new).seen before after
