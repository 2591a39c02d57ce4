-- What the driver did in its turns.
use Rattle.std.specs.Prelude.{◌≡◌, ℕ, suc, true, false, All, List, [], ◌∷◌, ◌++◌, map, Option, Some, decimal}
use Rattle.ob_base.specs.Causes.{Rose}
use Rattle.ob_base.specs.declared.fault.Fault.TheVariants.{Memory}
use Rattle.ob_io.specs.Streams.{Flow}
use Rattle.ob_report.specs.Report.{report}
use Rattle.ob_store.specs.declared.watch.Note.{Note}
use Rattle.ob_store.specs.Calls.{IsStoreFault}
use Rattle.ob_store.specs.Lines.{Trace, Shows}
use Rattle.ob_serial.specs.Vaults.{VaultCounts}
use Rattle.ob_serial.specs.VaultViews.{IsFetchFault, IsEndFault}
use Rattle.ob_serial.specs.VaultKinds.{Kind, ended_of}
use Rattle.ob_serial.specs.Serial.{EpochRecord}
use Rattle.ob_desk.specs.Beats.{BeatKind}
use Rattle.ob_desk.specs.declared.calls.Look.{Look}
use Rattle.ob_turn.specs.declared.turn.Entry.{Entry}
use Rattle.ob_hall.specs.Passes.{pass_place, Steps, Hall, Pass, entries_by, raised_by, IsPassOf, IsOutOfTurn}
use Rattle.ob_conduct.specs.declared.run_err.RunErr.{RunErr}
use Rattle.ob_conduct.specs.Acts.{Act, Batch, Halts, DeliverFails, FetchFails, RestUnwatched, Closes, Publishes, Refuses, Unprinted, Unwatched, calls, records, IsAllowed, fault_of, fault_told}
use Rattle.ob_conduct.specs.Rounds.{IsOneThing}
use Rattle.ob_conduct.specs.Scenes.{AllNoted}
use Rattle.ob_conduct.specs.Records.{AreAnswered, IsWritten}
use Rattle.ob_conduct.specs.Ready.{TellsEpochs, IsDueRecord}
use Rattle.ob_conduct.specs.Moves.{AreLines}
use Rattle.ob_driver.specs.declared.round.Round.{Round}
use Rattle.ob_driver.specs.Looks.{SaysRound}
use Rattle.ob_driver.specs.Resting.{IsBetweenTurns}
use Rattle.ob_driver.specs.Turning.{AreActs}

-- the driver's pass, the vault, what its watch tells, and what stands in the output
pub record Side (V : Type 0) : Type 0 where
  pub pass : Pass
  pub vault : V
  pub trace : Trace
  pub output : Flow

abbrev pub side : {V : Type 0} → Pass → V → Trace → Flow → Side V
side pass vault trace output = record { pass = pass; vault = vault; trace = trace; output = output }

-- the epochs of the records
abbrev pub epochs_of : List (EpochRecord ℕ) → List ℕ
epochs_of told = map (λ r. r.epoch) told

-- Acts of the driver's in turns of its pass, each allowed where its look is, and the calls of the vault that belong to them, each made under a watch that was whole, to which their notes were shown. Each number of an epoch that the vault ended was raised, in order.
pub record Acts {V : Type 0} (k : Kind V) (beat : BeatKind) (old new : Side V) (acts : List Act) : Type 0 where
  pub allowed : All (IsAllowed beat) acts
  pub turns : List (Entry Steps)
  pub made : entries_by new.pass ≡ entries_by old.pass ++ turns
  pub are : AreActs turns acts
  pub notes : List Note
  pub chain : AllNoted k old.vault old.trace (calls acts) notes new.vault new.trace
  pub shown : Shows notes old.trace new.trace
  pub rung : raised_by new.pass ≡ raised_by old.pass ++ epochs_of (records acts)
  pub place : pass_place new.pass ≡ pass_place old.pass

-- acts that nobody refused: the records are those of the epochs that the vault ended meanwhile, with their writes, all their lines are written, and the watch is whole
pub record Done {V : Type 0} (k : Kind V) (beat : BeatKind) (hall : Hall) (old : Side V) (c : VaultCounts) (new : Side V) (next : VaultCounts) (acts : List Act) : Type 0 where
  pub acts_are : Acts k beat old new acts
  pub answered : AreAnswered (calls acts)
  pub told : TellsEpochs (suc c.epoch) (suc next.epoch) (ended_of (calls acts)) (records acts)
  pub written : IsWritten (report decimal (records acts)) old.output new.output
  pub whole : new.trace.broken ≡ false
  pub rests : IsBetweenTurns hall new.pass next

-- What stands behind what the last act tells of, in the epoch of this number: a client found no memory; the vault refused a batch, or an end; the output failed; or the watch broke.
abbrev pub IsCause : ℕ → Act → Trace → Type 0
IsCause epoch (Halts fault) after = fault ≡ Memory
IsCause epoch (DeliverFails keys fault) after = IsFetchFault fault
IsCause epoch (FetchFails look batches keys fault) after = IsFetchFault fault
IsCause epoch (RestUnwatched look batches) after = after.broken ≡ true
IsCause epoch (Refuses writes refused) after = IsEndFault epoch refused × ((due : EpochRecord ℕ) × IsDueRecord epoch writes due)
IsCause epoch Unprinted after = Unit {0}
IsCause epoch Unwatched after = after.broken ≡ true
IsCause epoch _ after = ⊥

-- Acts of which the last one tells what cut the run off, and nobody refused those before it. The vault refused by its store only where its count of faults rose.
pub record Fails {V : Type 0} (k : Kind V) (beat : BeatKind) (hall : Hall) (old : Side V) (c : VaultCounts) (new : Side V) (acts : List Act) (err : RunErr) : Type 0 where
  pub acts_are : Acts k beat old new acts
  pub own : IsPassOf hall new.pass
  pub idle : IsOutOfTurn new.pass
  pub front : List Act
  pub last : Act
  pub ends : acts ≡ front ++ last ∷ []
  pub answered : AreAnswered (calls front)
  pub fault_is : fault_told last ≡ Some err
  pub next : ℕ
  pub told : TellsEpochs (suc c.epoch) next (ended_of (calls acts)) (records acts)
  pub reason : IsCause next last new.trace
  pub cause : IsStoreFault (fault_of err) → Rose (k.disk old.vault).faults (k.disk new.vault).faults
  pub lines : AreLines last (records acts) old.output new.output

-- one thing that the driver does, behind which the run goes on so
pub record DoneOnce {V : Type 0} (k : Kind V) (beat : BeatKind) (hall : Hall) (old : Side V) (c : VaultCounts) (new : Side V) (next : VaultCounts) (round : Round) : Type 0 where
  pub acts : List Act
  pub one : IsOneThing acts
  pub says : SaysRound round acts
  pub done : Done k beat hall old c new next acts

pub record FailsOnce {V : Type 0} (k : Kind V) (beat : BeatKind) (hall : Hall) (old : Side V) (c : VaultCounts) (new : Side V) (err : RunErr) : Type 0 where
  pub acts : List Act
  pub one : IsOneThing acts
  pub fails : Fails k beat hall old c new acts err

-- An epoch was closed, ended and published as this record, and its lines aren't written yet.
pub record EndedOnce {V : Type 0} (k : Kind V) (beat : BeatKind) (hall : Hall) (old : Side V) (c : VaultCounts) (new : Side V) (next : VaultCounts) (told : EpochRecord ℕ) : Type 0 where
  pub look : Look
  pub batches : List Batch
  pub writes : List (ℕ × Option (List ℕ))
  pub left : ℕ
  pub acts_are : Acts k beat old new (Closes look batches writes ∷ Publishes writes left told ∷ [])
  pub due : IsDueRecord (suc c.epoch) writes told
  pub epoch : next.epoch ≡ suc c.epoch
  pub rests : IsBetweenTurns hall new.pass next
