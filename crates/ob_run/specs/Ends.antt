-- How a run at a hall ends, by its whole history.
use Rattle.std.specs.Prelude.{◌≡◌, ℕ, suc, true, false, List, [], slice_get, Some, decimal}
use Rattle.ob_base.specs.declared.params.Params.{Params}
use Rattle.ob_report.specs.Report.{report}
use Rattle.ob_serial.specs.Vaults.{VaultCounts}
use Rattle.ob_serial.specs.VaultKinds.{Kind}
use Rattle.ob_desk.specs.Desk.{DeskState}
use Rattle.ob_desk.specs.Beats.{BeatKind}
use Rattle.ob_session.specs.Clients.{has_signed_off}
use Rattle.ob_turn.specs.declared.turn.Entry.{Entry}
use Rattle.ob_turn.specs.History.{entries_of}
use Rattle.ob_hall.specs.Turns.{client_numbers}
use Rattle.ob_hall.specs.Passes.{Steps, Hall, Pass, opening_of, IsLegal}
use Rattle.ob_hall.specs.Opening.{ArePasses}
use Rattle.ob_hall.specs.Closing.{HasPass, IsWholeHistory}
use Rattle.ob_hall.specs.Driving.{StepRule, AreSteps}
use Rattle.ob_conduct.specs.declared.run_err.RunErr.{RunErr}
use Rattle.ob_conduct.specs.Acts.{Act, calls, records}
use Rattle.ob_conduct.specs.Scenes.{scene}
use Rattle.ob_conduct.specs.Records.{AreAnswered, IsOver, IsWritten}
use Rattle.ob_conduct.specs.Moves.{Failure}
use Rattle.ob_driver.specs.Driven.{Side}
use Rattle.ob_driver.specs.Drives.{RunsOut, RunFails, IsFirstPass}
use Rattle.ob_run.specs.Woven.{Woven}

-- a client calls nothing behind its sign-off
abbrev pub QuietRule : StepRule
QuietRule client said calls = has_signed_off said ≡ true → calls ≡ []

-- so it is by what runners of a kind are to do
abbrev pub IsQuiet : {Plan : Type 0} → (Plan → StepRule) → Type 0
IsQuiet {Plan} turn = (plan : Plan) (client : ℕ) (said steps : Steps) → turn plan client said steps → QuietRule client said steps

-- so it is of each client's entries
abbrev pub AreQuiet : DeskState → List (Entry Steps) → Type 0
AreQuiet opened log = (at number : ℕ) → slice_get (client_numbers opened) at ≡ Some number → AreSteps QuietRule number [] (entries_of (suc at) log)

-- nothing more is asked of the driver's acts
abbrev pub AnyActs : List Act → Type 0
AnyActs acts = Unit {0}

-- The driver saw a desk that was over, and made no entry behind that; so it is of the whole history, the vault refused nothing, and the watch is whole.
abbrev pub OverRunsEndOver : {V : Type 0} → Kind V → Type 0
OverRunsEndOver {V} k = (beat : BeatKind) (hall : Hall) (old : Side V) (c : VaultCounts) (new : Side V) (next : VaultCounts) (r : RunsOut k beat hall AnyActs old c new next) (log : List (Entry Steps)) (raised : List ℕ) (d : DeskState)
    → HasPass log raised new.pass → IsLegal hall log d → AreQuiet (opening_of hall) log → (w : Woven k beat (opening_of hall) d log old.vault new.vault r.done.acts)
    → AreAnswered (calls w.acts) × IsOver d × IsWritten (report decimal (records w.acts)) old.output new.output × (new.trace.broken ≡ false)

-- The driver's last act told what cut the run off; so does the last act of the whole history that isn't a client's.
abbrev pub FailedRunsFail : {V : Type 0} → Kind V → Type 0
FailedRunsFail {V} k = (beat : BeatKind) (hall : Hall) (old : Side V) (p : Params) (c : VaultCounts) (new : Side V) (err : RunErr) → IsFirstPass hall old.pass p c → (r : RunFails k beat hall AnyActs old c new err) (log : List (Entry Steps)) (d : DeskState)
    → IsLegal hall log d → (w : Woven k beat (opening_of hall) d log old.vault new.vault r.fails.acts)
    → Failure k (scene (opening_of hall) old.vault old.trace) (scene d new.vault new.trace) w.acts old.output new.output err

-- All passes are as they were made, and so is the desk.
abbrev pub IdleHallsHaveNone : Type 0
IdleHallsHaveNone = (hall : Hall) (clients : List ℕ) (passes : List Pass) (d : DeskState) → ArePasses hall clients passes → (w : IsWholeHistory hall passes d) → (w.log ≡ []) × (d ≡ opening_of hall)
