-- Private: what came of the words, with a store and without one, before the fault's line is written and behind it.
use Rattle.std.specs.Prelude.{ℕ, ◌≡◌, ◌⊎◌, Bool, true, false, not, List, Option, Some, None}
use Rattle.std.specs.Borrow.{Bor}
use Rattle.ob_base.specs.declared.fault.Fault.{Fault}
use Rattle.ob_base.specs.declared.fault.Fault.TheVariants.{StoreFault}
use Rattle.ob_seal.specs.declared.keys.Keys.{Keys}
use Rattle.ob_store.specs.Disk.{Disk}
use Rattle.ob_store.specs.Images.{LeavesOnly}
use Rattle.ob_store.specs.Lines.{Trace, first_line}
use Rattle.ob_store.specs.declared.line.Start.{Start}
use Rattle.ob_store.specs.declared.line.Start.TheVariants as start
use Rattle.ob_io.specs.Streams.{Flow}
use Rattle.ob_conduct.specs.declared.run_err.RunErr.{RunErr}
use Rattle.ob_conduct.specs.declared.run_err.RunErr.TheVariants as failed
use Rattle.ob_desk.specs.Beats.{BeatKind}
use Rattle.ob_words.specs.declared.work.Command.{Command}
use Rattle.ob_words.specs.declared.work.Command.TheVariants.{Format, Run}
use Rattle.ob_words.specs.Work.{Asks, IsRefusedFor, HasKeys, IsKeysRefused}
use Rattle.ob_top.specs.Outside.{Given, HasTrace, Outside, blind, IsCommandFinished, IsFinished}
use Rattle.ob_top.specs.Drills.{ApartDoes}
use Rattle.ob_top.specs.Formats.{FormatEnds}
use Rattle.ob_vault.specs.RingKind.{ring_kind}
use Rattle.ob_vault.specs.RingLives.{ring_lives}
use Rattle.ob_top.specs.Audited.{ring_audits}
use Rattle.ob_top.specs.Runs.{RunOn}
use Rattle.ob_top.specs.Parts.{manner}

-- The words ask for something over a store, and the numbers are in range.
abbrev pub AskForSomething : List (List ℕ) → Type 0
AskForSomething words = (command : Command) × Asks words command

-- what is refused before the store is looked at: the words, and then the keys
abbrev pub IsRefusedBefore : List (List ℕ) → Option (Bor (List ℕ)) → Fault → Type 0
IsRefusedBefore words text fault = IsRefusedFor words fault ⊎ (AskForSomething words × IsKeysRefused text fault)

-- and then that there is none
abbrev pub IsRefusedWithout : List (List ℕ) → Option (Bor (List ℕ)) → Fault → Type 0
IsRefusedWithout words text fault = IsRefusedBefore words text fault ⊎ (AskForSomething words × ((keys : Keys) × HasKeys text keys) × (fault ≡ StoreFault None))

-- whether a command has a trace, and how that begins
abbrev pub traced_of : Command → Bool
traced_of (Format p traced) = traced
traced_of (Run k turns traced mirrored shares) = traced

abbrev pub start_for : Command → Start
start_for (Format p traced) = start.Format p
start_for (Run k turns traced mirrored shares) = start.Run false

-- What a command did under a watch that told this before it and tells that behind it; the tape has then given this.
abbrev pub WatchedDoes : {S : Type 0} → (S → Disk) → BeatKind → (tape : Given) → Command → Keys → S → S → Outside → Outside → Trace → Trace → Option RunErr → Type 0
WatchedDoes disk beat tape (Format p traced) keys old new before after t u err = FormatEnds ring_kind ring_lives ring_audits disk tape keys p old new before.output after.output t u err
    × ((disk old).tells → LeavesOnly (disk old) (disk new) (ring_kind.format_leaves keys p tape.words (disk old))) × (after.input ≡ before.input)
WatchedDoes disk beat tape (Run k turns traced mirrored shares) keys old new before after t u err = RunOn ring_kind ring_lives ring_audits disk (manner beat (not turns) k shares) tape keys old new before after t u err

module _ {S W : Type 0} (disk : S → Disk) (flow : W → Flow) (beat : BeatKind) (tape : Given) (command : Command) (keys : Keys) (old new : S) (before after : Outside) (was is : Option W) (err : Option RunErr) where
  -- nothing was done, for want of a trace
  abbrev pub IsUntraced : Type 0
  IsUntraced = (new ≡ old) × (after ≡ before) × (err ≡ Some failed.Unwatched)

  -- With a trace: none was handed in; or its first line broke it, and nothing was done; or the command was done under it. Without one what was
  -- handed in is as it was.
  abbrev pub TracedDoes : Bool → Type 0
  TracedDoes false = (is ≡ was) × WatchedDoes disk beat tape command keys old new before after blind blind err
  TracedDoes true = ((was ≡ None) × (is ≡ was) × IsUntraced) ⊎ ((t : Trace) × (u : Trace) × HasTrace flow (first_line (start_for command)) was is t u
      × (((t.broken ≡ true) × (u ≡ t) × IsUntraced) ⊎ ((t.broken ≡ false) × WatchedDoes disk beat tape command keys old new before after t u err)))

-- What came of the words over a store, before the fault's line is written.
abbrev pub CommandDoes : {S W : Type 0} → (S → Disk) → (W → Flow) → BeatKind → (tape : Given) → List (List ℕ) → Option (Bor (List ℕ)) → S → S → Outside → Outside → Option W → Option W → Option RunErr → Type 0
CommandDoes disk flow beat tape words text old new before after was is err =
    ((f : Fault) × (err ≡ Some (failed.Fault f)) × IsRefusedBefore words text f × ((new ≡ old) × (is ≡ was)) × (after ≡ before))
    ⊎ ((keys : Keys) × HasKeys text keys × ((command : Command) × Asks words command × TracedDoes disk flow beat tape command keys old new before after was is err (traced_of command)))

-- an audit or a self-test, which leave the store and the trace; or something over the store, and then the fault's line
abbrev pub OverStore : {S W : Type 0} → (S → Disk) → (W → Flow) → BeatKind → (tape : Given) → List (List ℕ) → Option (Bor (List ℕ)) → S → S → Outside → Outside → Option W → Option W → ℕ → Type 0
OverStore disk flow beat tape words text old new before after was is status =
    (((new ≡ old) × (is ≡ was)) × ApartDoes words before after status)
    ⊎ ((mid : Outside) × (err : Option RunErr) × CommandDoes disk flow beat tape words text old new before mid was is err × (after.input ≡ mid.input) × IsCommandFinished mid.output after.output err status)

abbrev pub WithoutStore : List (List ℕ) → Option (Bor (List ℕ)) → Outside → Outside → ℕ → Type 0
WithoutStore words text before after status =
    ApartDoes words before after status
    ⊎ ((fault : Fault) × IsRefusedWithout words text fault × (after.input ≡ before.input) × IsFinished before.output after.output (Some fault) status)
