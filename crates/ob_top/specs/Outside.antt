-- What is seen of the objects that were handed in.
use Rattle.std.specs.Prelude.{true, false, List, [], ℕ, ◌≡◌, ◌⊎◌, Option, Some, None}
use Rattle.std.specs.Borrow.{MutBor}
use Rattle.std.proofs.Common.{inl, inr}
use Rattle.ob_base.specs.declared.fault.Fault.{Fault}
use Rattle.ob_base.specs.declared.fault.Fault.TheVariants.{SinkFault}
use Rattle.ob_report.specs.Faults.{status_of, fault_status, fault_line}
use Rattle.ob_store.specs.Disk.{Disk}
use Rattle.ob_store.specs.Lines.{AddsOnly, Trace}
use Rattle.ob_store.specs.Calls.{GoesOn}
use Rattle.ob_io.specs.Streams.{Flow}
use Rattle.ob_report.specs.Printed.{IsPrinted}
use Rattle.ob_conduct.specs.declared.run_err.RunErr.{RunErr}
use Rattle.ob_conduct.specs.declared.run_err.RunErr.TheVariants as failed
use Rattle.ob_top.specs.Endings.{told_fault}

-- the bytes that come in and go out, at one moment
pub record Outside : Type 0 where
  pub input : Flow
  pub output : Flow

abbrev pub outside : Flow → Flow → Outside
outside input output = record { input = input; output = output }

-- The words that a tape has given, and the generation that it was started at to give them.
pub record Given : Type 0 where
  pub generation : ℕ
  pub words : List ℕ

abbrev pub words_given : (generation : ℕ) → List ℕ → Given
words_given generation words = record { generation = generation; words = words }

-- what was left behind a reference that may have been handed in
abbrev pub Left : Type 0 → Type 0
Left S = Unit {0} ⊎ ((MutBor S × Unit {0}) ⊎ ⊥)

-- A fact of the store that was handed in, as it was and as it is left, where there is one; and a fact for the case that there is none.
abbrev pub OfStore : {S : Type 0} → Option (MutBor S) → Left S → Type 0 → (S → S → Type 0) → Type 0
OfStore (Some lent) (inr (inl left)) without with_one = with_one lent.now left.0.now
OfStore (Some lent) _ without with_one = ⊥
OfStore None _ without with_one = without

-- no lane of the store is out
abbrev pub NoneOut : {S : Type 0} → (S → Disk) → Option (MutBor S) → Type 0
NoneOut disk (Some lent) = (disk lent.now).out ≡ 0
NoneOut disk None = Unit {0}

-- A store that was handed in goes on from what it was, and no lane of it is out, whatever was answered.
abbrev pub StoreGoesOn : {S : Type 0} → (S → Disk) → Option (MutBor S) → Left S → Type 0
StoreGoesOn disk entry exit = OfStore entry exit (Unit {0}) (λ old new. GoesOn (disk old) (disk new) × ((disk new).out ≡ 0))

-- The line of a fault is written behind what stands there, or a front of it, unless the output itself is what failed.
abbrev pub LineTold : Flow → Flow → Option Fault → Type 0
LineTold before after None = after ≡ before
LineTold before after (Some SinkFault) = after ≡ before
LineTold before after (Some fault) = IsPrinted before after (fault_line (Some fault))

-- the same of what cut a run off: where the watch broke it is told as the output's
abbrev pub ErrTold : Flow → Flow → Option RunErr → Type 0
ErrTold before after None = after ≡ before
ErrTold before after (Some (failed.Fault fault)) = LineTold before after (Some fault)
ErrTold before after (Some failed.Unwatched) = IsPrinted before after (fault_line (Some SinkFault))

-- whether it may go on: the watch is whole, or it has broken, and that is told
abbrev pub IsWatched : Trace → Option RunErr → Type 0
IsWatched trace None = trace.broken ≡ false
IsWatched trace (Some (failed.Fault fault)) = ⊥
IsWatched trace (Some failed.Unwatched) = trace.broken ≡ true

-- what the end of a command over a store tells
pub record IsCommandFinished (before after : Flow) (err : Option RunErr) (status : ℕ) : Type 0 where
  pub status_is : status ≡ status_of (told_fault err)
  pub line : ErrTold before after err

-- what the end of a call tells
pub record IsFinished (before after : Flow) (fault : Option Fault) (status : ℕ) : Type 0 where
  pub status_is : status ≡ status_of fault
  pub line : LineTold before after fault

-- Nothing was done but to write a refusal's line: the input is untouched.
pub record IsOnlyTold (fault : Fault) (before after : Outside) (status : ℕ) : Type 0 where
  pub status_is : status ≡ fault_status fault
  pub untouched : after.input ≡ before.input
  pub printed : IsPrinted before.output after.output (fault_line (Some fault))

-- what a watch tells that is shown nothing
abbrev pub blind : Trace
blind = record { written = None; broken = false; faults = 0; anchors = [] }

-- what a sink tells is what the watch over it does
abbrev pub TellsTrace : Flow → Trace → Type 0
TellsTrace flow trace = (flow.bytes ≡ trace.written) × (flow.faults ≡ trace.faults)

-- The sink of a trace, as it was handed in and as it is left: a watch over it, whole at first, has written the trace's first line, or a front
-- of it, behind what stood there, and then told this; and this behind the command.
pub record HasTrace {W : Type 0} (flow : W → Flow) (first : List ℕ) (was is : Option W) (t u : Trace) : Type 0 where
  pub before : W
  pub after : W
  pub was_is : was ≡ Some before
  pub is_is : is ≡ Some after
  pub start : Trace
  pub tells : TellsTrace (flow before) start
  pub whole : start.broken ≡ false
  pub line : AddsOnly first start t
  pub told : TellsTrace (flow after) u
