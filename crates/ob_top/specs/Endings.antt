-- How a run ends: how much of its records' lines stands, and which epoch's end was begun last, said of what was done alone.
use Rattle.std.specs.Prelude.{ℕ, suc, ◌≡◌, All, List, ◌∷◌, ◌++◌, length, Option, None, Some, Result, Ok, Err, decimal}
use Rattle.ob_base.specs.declared.fault.Fault.{Fault}
use Rattle.ob_base.specs.declared.fault.Fault.TheVariants.{SinkFault}
use Rattle.ob_io.specs.Streams.{Flow}
use Rattle.ob_report.specs.Report.{report}
use Rattle.ob_serial.specs.Serial.{EpochRecord}
use Rattle.ob_serial.specs.declared.vault.EndErr.{EndErr}
use Rattle.ob_desk.specs.Desk.{DeskState, Part, record_of}
use Rattle.ob_session.specs.Steps.{Leads}
use Rattle.ob_conduct.specs.declared.run_err.RunErr.{RunErr}
use Rattle.ob_conduct.specs.declared.run_err.RunErr.TheVariants as failed
use Rattle.ob_conduct.specs.Acts.{Act, Refuses, history, fault_of as fault_for}
use Rattle.ob_conduct.specs.Records.{Makes, IsCutShort, IsWritten}
use Rattle.ob_conduct.specs.Moves.{IsSaid}

-- the fault of an answer
abbrev pub fault_of : Result (Unit {0}) Fault → Option Fault
fault_of (Ok done) = None
fault_of (Err fault) = Some fault

-- what cut it off, by its answer
abbrev pub err_of : Result (Unit {0}) RunErr → Option RunErr
err_of (Ok done) = None
err_of (Err err) = Some err

-- the fault that is told of it: the output's where the watch broke
abbrev pub told_fault : Option RunErr → Option Fault
told_fault None = None
told_fault (Some err) = Some (fault_for err)

-- How much of these records' lines stands, and for how many records all of them: for each one; but where the output failed, it failed at
-- the last one's, and nothing stands behind a front of these.
abbrev pub LinesStand : Option RunErr → List (EpochRecord ℕ) → ℕ → Flow → Flow → Type 0
LinesStand (Some (failed.Fault SinkFault)) told whole before after = IsCutShort told before after × (suc whole ≡ length told)
LinesStand _ told whole before after = IsWritten (report decimal told) before after × (whole ≡ length told)

-- The record of an epoch whose end was refused, or left in doubt, said of the acts alone: the last one that isn't a client's tells of it,
-- and the desk to which those before it lead has this epoch closed. The vault was asked to end it with its writes.
pub record IsUnendedBy (opened : DeskState) (acts : List Act) (r : EpochRecord ℕ) : Type 0 where
  pub front : List Act
  pub writes : List (ℕ × Option (List ℕ))
  pub refused : EndErr
  pub behind : List Act
  pub acts_are : acts ≡ front ++ Refuses writes refused ∷ behind
  pub says : All IsSaid behind
  pub desk : DeskState
  pub leads : Leads opened (history front) desk
  pub closed : Part
  pub is_closed : desk.closed ≡ Some closed
  pub is_record : r ≡ record_of closed
  pub makes : Makes writes r

-- the same of the record of the epoch whose end was begun last, where one was
abbrev pub IsNextBy : DeskState → List Act → Option (EpochRecord ℕ) → Type 0
IsNextBy opened acts None = Unit {0}
IsNextBy opened acts (Some r) = IsUnendedBy opened acts r
